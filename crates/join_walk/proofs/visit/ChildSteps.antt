-- The children of a path: the left sets that go on after it are the groups by their next rank, from some key on. The first of
-- them begins a whole group, which is a child; what follows are the groups of greater keys.
use Prim.Native.Nat.{ℕ, suc, ◌+◌, ◌-◌, ◌≤◌, ◌<◌}
use mathlib.Core.Path.{◌≡◌, refl, ap, subst, ◌∙◌}
use mathlib.Core.List.{List, [], ◌∷◌, ◌++◌}
use native.Mathlib.Omega.{arith}
use native.Mathlib.Nat.{mul-le-mul_right}
use lib.Dec.{eqb}
use lib.ListN.{length, get_or, length-append}
use lib.Seq.{get_or_at}
use Rattle.std.specs.Prelude.{Option, Some}
use Rattle.lists.specs.Lists.{keep}
use Rattle.join_spec.specs.Query.{Query}
use Rattle.join_spec.specs.Node.{last_of}
use Rattle.counting_sort.specs.Groups.{groups_from}
use Rattle.join_index.specs.Grouping.{key_at, order_from}
use Rattle.join_index.specs.declared.Layout.{Layout}
use Rattle.join_index.specs.Asking.{RangeThere}
use Rattle.join_index.specs.Ranges.{left_in, RangeEnd}
use Rattle.join_check.specs.declared.Tally.{Tally}
use Rattle.join_nodes.specs.Visiting.{Underway, Children, beginners}
use Rattle.join_nodes.specs.Visiting.{RangeVisited}
use Rattle.kept_rows.specs.declared.Progress.{Progress}
use Rattle.join_nodes.specs.declared.WalkSettings.{WalkSettings}
use Rattle.join_nodes.proofs.Groups.{FirstGroup}
use Rattle.join_nodes.proofs.Prefixes.{keep-further}
use Rattle.join_nodes.proofs.RangeLaws.{Cut}
use Rattle.join_nodes.proofs.VisitLaws.{underway_next}
use Rattle.join_nodes.proofs.FrameLaws.{index_framed, range_framed}
use Rattle.join_nodes.proofs.blocks.GroupSteps.{group_first, group_cut}
use Rattle.join_walk.specs.visit.Child.{Child}

-- the last rank of a longer path is the one put behind it
pub last_longer : (path : List ℕ) (r : ℕ) → last_of (path ++ (r ∷ [])) ≡ r
last_longer path r =
    let end : length (path ++ (r ∷ [])) - 1 ≡ length path = omega (arith, length-append path (r ∷ [])) in
    ap (λ (n : ℕ). get_or (path ++ (r ∷ [])) n 0) end ∙ get_or_at path r [] 0 (length path) refl

-- fewer left sets need less room
pub underway_less : {st : WalkSettings} {q : Query} {tally : Tally} {n : ℕ} (m : ℕ) → m ≤ n → Underway st q tally n
    → Underway st q tally m
underway_less {st} {q} {tally} {n} m less before =
    record {
      limit = before.limit;
      shallow = before.shallow;
      rule = before.rule;
      budget = before.budget;
      bounded = omega (arith, before.bounded, mul-le-mul_right (length q.rights) less);
    }

module _ {lay : Layout} {st : WalkSettings} {q : Query} {path w : List ℕ} {d i hi : ℕ} {p : Progress}
    (kids : Children lay st q path w d i hi p) (more : i < hi) where
  abbrev rest : List ℕ
  rest = beginners q path (suc d)

  abbrev key : ℕ
  key = key_at q d (left_in lay w i)

  pub kids_range : RangeThere lay q w i hi
  kids_range = record { index = kids.index; some = more; within = kids.few }

  first : FirstGroup (key_at q d) kids.least kids.span rest (left_in lay w i)
  first = group_first d kids.least kids.span rest kids_range kids.lefts

  -- the child's own rank, and its path
  abbrev pub child_rank : ℕ
  child_rank = key - 1

  abbrev pub child_path : List ℕ
  child_path = path ++ (child_rank ∷ [])

  key_is : key ≡ suc child_rank
  key_is = omega (arith, first.low, kids.further)

  rank_low : child_rank < q.T
  rank_low = omega (arith, first.high, kids.keys, key_is)

  module _ {j : ℕ} (end : RangeEnd lay w d i hi j) where
    parted : Cut lay w i j hi (keep (λ k. eqb (key_at q d k) key) rest)
        (groups_from (key_at q d) (suc key) (kids.least + kids.span - suc key) rest)
    parted = group_cut d kids.least kids.span rest kids_range kids.lefts end

    -- the first child
    pub first_child : Child lay st q child_path w (suc d) i j p
    first_child =
        record {
          index = kids.index;
          underway = underway_less (j - i) (omega (arith, end.within)) kids.underway;
          rows = kids.rows;
          depth = omega (arith, length-append path (child_rank ∷ []), kids.depth);
          within = kids.within;
          last = rw (last_longer path child_rank) rank_low;
          some = end.more;
          few = omega (arith, end.within, kids.few);
          lefts =
              parted.front
              ∙ subst (λ (y : ℕ). keep (λ k. eqb (key_at q d k) key) rest ≡ keep (λ k. eqb (key_at q d k) y) rest) key_is refl
              ∙ subst (λ (e : ℕ). keep (λ k. eqb (key_at q e k) (suc child_rank)) rest ≡ beginners q child_path (suc d))
              kids.depth (keep-further q path child_rank (order_from q (q.limit - suc d) (suc d)));
        }

    -- the children after it
    pub kids_next : {w' : List ℕ} {slot : ℕ} {one : Option Progress} → lay.slots ≤ slot
        → RangeVisited lay q st.budget slot (suc d) w w' i j p.tally one → (at : Progress) → one ≡ Some at
        → Children lay st q path w' d j hi at
    kids_next low visit at made =
        record {
          index = index_framed kids.index visit.framed low;
          underway = underway_next kids.underway (visit.visited.added at made)
              (omega (arith, ap length parted.front, parted.size, end.more, end.within)) (visit.visited.within at made);
          rows = visit.rows at made;
          depth = kids.depth;
          within = kids.within;
          upto = end.within;
          few = kids.few;
          least = suc key;
          span = kids.least + kids.span - suc key;
          keys = omega (arith, kids.keys, first.high);
          further = omega arith;
          lefts = range_framed kids.index visit.framed low j hi kids.few ∙ parted.back;
        }
