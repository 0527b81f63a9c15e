-- What a node's record gives the code: its first left set begins with its path, so the path's ranks can be read off that set;
-- and its three numbers are the lengths of its range and of its candidates, and a count over an inverted list.
use Prim.Native.Nat.{ℕ, suc, ◌+◌, ◌-◌, ◌≤◌, ◌<◌}
use mathlib.Core.Path.{◌≡◌, refl, sym, ap, subst, ◌∙◌}
use mathlib.Core.List.{List, map}
use mathlib.Core.Bool.{Bool, true, false, ◌&&◌}
use native.Mathlib.Omega.{arith}
use borrow.Author.Tests.{lt-leb}
use lib.Dec.{ltb}
use lib.ListN.{length, get_or}
use lib.Seq.{get_or-take}
use Rattle.lists.specs.Lists.{count, memb, prefix, upto, slice}
use Rattle.lists.proofs.Bools.{true-false}
use Rattle.lists.proofs.Counting.{count_bound}
use Rattle.lists.proofs.Filtering.{all_keep, count-keep}
use Rattle.lists.proofs.Ranges.{all_upto, length-range}
use Rattle.lists.proofs.Slices.{length-slice}
use Rattle.join_spec.specs.declared.Weights.{Weights}
use Rattle.join_spec.specs.declared.Rule.{Rule}
use Rattle.join_spec.specs.declared.Rule.TheVariants.{Merge, Check, Weighed}
use Rattle.join_spec.specs.Query.{Query, in_order}
use Rattle.join_spec.specs.Node.{seen, first_of, last_of, candidates, holders, beginning, goes_on, goes_on_at}
use Rattle.join_spec.specs.Walk.{is_candidate, goes}
use Rattle.join_index.specs.Grouping.{left_at, right_at, key_at}
use Rattle.counting_sort.specs.Holding.{RegionHolds}
use Rattle.join_index.specs.Ground.{inverted_list, asks_seen}
use Rattle.join_index.specs.declared.Layout.{Layout}
use Rattle.join_index.proofs.GroundLaws.{slot_bound}
use Rattle.join_index.specs.Asking.{Index, LeftThere, PlacesThere}
use Rattle.join_index.specs.Ranges.{left_in}
use Rattle.words.specs.Words.{Word}
use Rattle.join_index.proofs.Orders.{order_left}
use Rattle.join_nodes.specs.Visiting.{OnPath, NodeAt}
use Rattle.join_nodes.proofs.RangeLaws.{range_length, begins_first}
use Rattle.join_nodes.proofs.Prefixes.{prefix-take, prefix-length}
use Rattle.join_nodes.proofs.NodeLaws.{beginning_is, candidates_is, holders_is, goes_is}
use Rattle.join_nodes.proofs.Narrowing.{listing-length}

-- what is on a path
module _ {lay : Layout} {q : Query} {path w : List ℕ} {lo i : ℕ} (on : OnPath lay q path w lo i) where
  pub on_left : LeftThere lay q w (left_in lay w lo)
  on_left = order_left on.index lo on.few

  on_deep : i < length (left_at q (left_in lay w lo))
  on_deep = omega (arith, on.deep, prefix-length path (left_at q (left_in lay w lo)) on.begins)

  on_rank : get_or path i 0 ≡ get_or (left_at q (left_in lay w lo)) i 0
  on_rank =
      ap (λ (l : List ℕ). get_or l i 0) (prefix-take path (left_at q (left_in lay w lo)) on.begins)
      ∙ get_or-take (length path) (left_at q (left_in lay w lo)) i 0 on.deep

  -- the key of the left set there is one more than the path's rank
  pub on_key : key_at q i (left_in lay w lo) ≡ suc (get_or path i 0)
  unfolding key_at
  on_key = rw (lt-leb (length (left_at q (left_in lay w lo))) i on_deep) (ap suc (sym on_rank))

  -- the left set as it was read, and its key
  pub on_word : {k : ℕ} → Word w (lay.left_order + lo) k → LeftThere lay q w k
  on_word word = subst (λ (n : ℕ). LeftThere lay q w n) (sym word.is) on_left

  pub on_read : {k r : ℕ} → Word w (lay.left_order + lo) k → ((q : Query) → LeftThere lay q w k → r ≡ key_at q i k)
      → r ≡ suc (get_or path i 0)
  on_read word read = read q (on_word word) ∙ ap (key_at q i) word.is ∙ on_key

module _ {lay : Layout} {q : Query} {path w : List ℕ} {d lo hi from to : ℕ} (node : NodeAt lay q path w d lo hi from to) where
  index : Index lay q w
  index = node.candidates.index

  -- the first left set begins with the path
  pub first_begins : prefix path (left_at q (left_in lay w lo)) ≡ true
  first_begins = begins_first path d (record { index = index; some = node.some; within = node.few }) node.lefts

  pub node_path : (i : ℕ) → i < d → OnPath lay q path w lo i
  node_path i deep =
      record {
        index = index;
        few = omega (arith, node.some, node.few);
        begins = first_begins;
        deep = omega (arith, node.candidates.depth);
      }

  -- m
  pub node_lefts : beginning (map (in_order q) q.lefts) path ≡ hi - lo
  node_lefts =
      beginning_is q path (q.limit - d) d ∙ sym (ap length node.lefts) ∙ range_length lay q w lo hi index node.few

  candidates_within : to ≤ length w
  candidates_within =
      omega (
        arith,
        node.candidates.below,
        slot_bound index.ground (last_of path) node.candidates.last,
        (index.ground.inverted (last_of path) node.candidates.last).rise,
      )

  part_length : length (slice from to w) ≡ to - from
  part_length = length-slice from to w candidates_within

  -- c
  node_candidates : asks_seen q.rule ≡ true → candidates (map (in_order q) q.rights) path ≡ to - from
  node_candidates asked =
      candidates_is q path node.candidates.depth node.candidates.deep
      ∙ sym (listing-length (length q.rights) (λ s. is_candidate (d - 1) path (right_at q s)) (slice from to w)
      (node.candidates.listing asked))
      ∙ part_length

  last_on : last_of path ≡ get_or path (d - 1) 0
  last_on = ap (λ (n : ℕ). get_or path (n - 1) 0) node.candidates.depth

  -- the path's last rank as it was read
  node_last : {rank : ℕ} → rank ≡ get_or path (d - 1) 0 → rank ≡ last_of path
  node_last e = e ∙ sym last_on

  -- the path's first and last ranks as they are read off its first left set
  pub first_read : {rank : ℕ} → ((q : Query) (path : List ℕ) → OnPath lay q path w lo 0 → rank ≡ get_or path 0 0)
      → rank ≡ first_of path
  first_read read = read q path (node_path 0 node.candidates.deep)

  pub last_read : {rank : ℕ} → ((q : Query) (path : List ℕ) → OnPath lay q path w lo (d - 1) → rank ≡ get_or path (d - 1) 0)
      → rank ≡ last_of path
  last_read read = node_last (read q path (node_path (d - 1) (omega (arith, node.candidates.deep))))

  -- the decision
  pub node_goes : asks_seen q.rule ≡ true → (t : ℕ) → t ≡ count (λ s. seen (first_of path) (right_at q s)) (inverted_list q (last_of path))
      → goes q path ≡ goes_on q.rule (to - from) t (hi - lo)
  node_goes asked t e = goes_is q path (to - from) t (hi - lo) (node_candidates asked) (holders_is q path ∙ sym e) node_lefts

-- how many of an inverted list are seen is no more than the right sets
pub seen_few : (q : Query) (r : ℕ) (p : ℕ → Bool) → count p (inverted_list q r) ≤ length q.rights
seen_few q r p =
    omega (
      arith,
      count-keep (λ s. memb r (right_at q s)) p (upto (length q.rights)),
      count_bound (λ s. memb r (right_at q s) && p s) (upto (length q.rights)),
      length-range 0 (length q.rights),
    )

-- Merge goes on, and Check does not
pub merge_goes : (q : Query) (path : List ℕ) → q.rule ≡ Merge → true ≡ goes q path
unfolding goes goes_on_at goes_on
merge_goes q path e = rw e

pub check_stops : (q : Query) (path : List ℕ) → q.rule ≡ Check → false ≡ goes q path
unfolding goes goes_on_at goes_on
check_stops q path e = rw e

-- Merge alone doesn't ask which right sets are seen
pub weighed_asks : {weights : Weights} (q : Query) → q.rule ≡ Weighed weights → asks_seen q.rule ≡ true
unfolding asks_seen
weighed_asks q e = rw e refl

stopping_asks : (rule : Rule) (c t m : ℕ) → false ≡ goes_on rule c t m → asks_seen rule ≡ true
unfolding asks_seen goes_on
stopping_asks Merge c t m stop = true-false refl (sym stop)
stopping_asks Check c t m stop = refl
stopping_asks (Weighed w) c t m stop = refl

pub stop_asks : (q : Query) (path : List ℕ) → false ≡ goes q path → asks_seen q.rule ≡ true
unfolding goes goes_on_at
stop_asks q path stop =
    let lefts = map (in_order q) q.lefts in
    let rights = map (in_order q) q.rights in
    stopping_asks q.rule (candidates rights path) (holders rights path) (beginning lefts path) stop

going_unasked : (rule : Rule) (c t m : ℕ) → asks_seen rule ≡ false → true ≡ goes_on rule c t m
unfolding asks_seen goes_on
going_unasked Merge c t m unasked = refl
going_unasked Check c t m unasked = true-false refl unasked
going_unasked (Weighed w) c t m unasked = true-false refl unasked

pub unasked_goes : (q : Query) (path : List ℕ) → asks_seen q.rule ≡ false → true ≡ goes q path
unfolding goes goes_on_at
unasked_goes q path unasked =
    let lefts = map (in_order q) q.lefts in
    let rights = map (in_order q) q.rights in
    going_unasked q.rule (candidates rights path) (holders rights path) (beginning lefts path) unasked

-- an inverted list is a list of right places
pub inverted_there : {lay : Layout} {q : Query} {w : List ℕ} (r first last : ℕ) → Index lay q w → r < q.T
    → RegionHolds w lay.slots (lay.index + first) (lay.index + last) (inverted_list q r)
    → PlacesThere lay q w (lay.index + first) (lay.index + last)
inverted_there {lay} {q} {w} r first last index below holds =
    record {
      index = index;
      within = omega (arith, holds.within, index.room);
      below = rw holds.is
          (all_keep (λ s. ltb s (length q.rights)) (λ s. memb r (right_at q s)) (upto (length q.rights))
          (all_upto (length q.rights)));
    }

-- t, as it is counted in the last rank's inverted list
module _ {lay : Layout} {q : Query} {path w : List ℕ} {d lo hi from to t : ℕ} (root first last : ℕ)
    (node : NodeAt lay q path w d lo hi from to)
    (holds : RegionHolds w lay.slots (lay.index + first) (lay.index + last) (inverted_list q (last_of path)))
    (counted : (q : Query) → PlacesThere lay q w (lay.index + first) (lay.index + last)
    → t ≡ count (λ s. seen root (right_at q s)) (slice (lay.index + first) (lay.index + last) w)) where
  counted_in : t ≡ count (λ s. seen root (right_at q s)) (inverted_list q (last_of path))
  counted_in =
      counted q (inverted_there (last_of path) first last node.candidates.index node.candidates.last holds)
      ∙ ap (count (λ s. seen root (right_at q s))) holds.is

  pub counted_few : t ≤ length q.rights
  counted_few = omega (arith, counted_in, seen_few q (last_of path) (λ s. seen root (right_at q s)))

  pub counted_goes : asks_seen q.rule ≡ true → root ≡ first_of path → goes q path ≡ goes_on q.rule (to - from) t (hi - lo)
  counted_goes asked is =
      node_goes node asked t
      (counted_in ∙ ap (λ (r : ℕ). count (λ s. seen r (right_at q s)) (inverted_list q (last_of path))) is)
