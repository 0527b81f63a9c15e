-- A child of a node: with the candidates after the node's path it is a node, and its slot lies beyond these candidates, since its
-- rank is greater than the path's last.
use Prim.Native.Nat.{ℕ, suc, ◌+◌, ◌-◌, ◌≤◌, ◌<◌}
use mathlib.Core.Path.{◌≡◌, refl, sym, ap, subst, ◌∙◌}
use mathlib.Core.List.{List, [], ◌∷◌, ◌++◌}
use mathlib.Core.Bool.{true}
use native.Mathlib.Omega.{arith}
use native.Mathlib.Numerals.{add-one}
use borrow.Author.Tests.{eq-eqb}
use lib.ListN.{length, take, get_or, get_or-append}
use lib.Seq.{get_or_at, get_or-take}
use Rattle.std.specs.Prelude.{Option}
use Rattle.lists.specs.Lists.{prefix, slice, upto}
use Rattle.lists.proofs.Bools.{and_both}
use Rattle.lists.proofs.Filtering.{keep_same}
use Rattle.lists.proofs.Rising.{rising_below}
use Rattle.lists.proofs.Slices.{frame-slice}
use Rattle.join_spec.specs.Query.{Query}
use Rattle.join_spec.specs.Node.{last_of}
use Rattle.join_spec.specs.Walk.{is_candidate}
use Rattle.join_index.specs.Grouping.{left_at, right_at}
use Rattle.join_index.specs.Ground.{Listing}
use Rattle.join_index.specs.declared.Layout.{Layout}
use Rattle.join_index.proofs.GroundLaws.{offsets_rise, slot_bound}
use Rattle.join_index.proofs.Ordering.{left_rising}
use Rattle.join_index.specs.Ranges.{lefts_in, left_in, RangeEnd}
use Rattle.join_nodes.specs.Narrowing.{candidate_list, slot_of}
use Rattle.join_nodes.specs.Visiting.{Node, Children, After, ChildrenAt}
use Rattle.join_nodes.specs.Visiting.{Visited, Framed, NodeVisited}
use Rattle.kept_rows.specs.declared.Progress.{Progress}
use Rattle.join_nodes.specs.declared.WalkSettings.{WalkSettings}
use Rattle.join_nodes.proofs.Prefixes.{prefix-take, prefix-length}
use Rattle.join_nodes.proofs.Narrowing.{candidate_path, listing_kept, listing_few}
use Rattle.join_nodes.proofs.RangeLaws.{begins_first}
use Rattle.join_nodes.proofs.PartLoop.{PartDone}
use Rattle.join_nodes.proofs.FrameLaws.{slot_framed, framed_lower}
use Rattle.join_walk.specs.visit.Child.{Child}
use Rattle.join_walk.proofs.visit.ChildSteps.{last_longer, child_rank, child_path, first_child, kids_next}

-- a path is a prefix of a longer one
prefix_longer : (path : List ℕ) (r : ℕ) → prefix path (path ++ (r ∷ [])) ≡ true
unfolding prefix
prefix_longer [] r = refl
prefix_longer (p ∷ ps) r = and_both (eq-eqb p p refl) (prefix_longer ps r)

-- the first child of a node, with the candidates after the node
module _ {lay : Layout} {st : WalkSettings} {q : Query} {path w : List ℕ} {d i hi from to : ℕ} {p : Progress}
    (at : ChildrenAt lay st q path w d i hi from to p) (more : i < hi) {j : ℕ} (end : RangeEnd lay w d i hi j) where
  kids : Children lay st q path w d i hi p
  kids = at.kids

  after : After lay q path w d from to
  after = at.after

  abbrev rank : ℕ
  rank = child_rank at.kids more

  abbrev longer : List ℕ
  longer = child_path at.kids more

  child : Child lay st q longer w (suc d) i j p
  child = first_child at.kids more end

  -- the child's rank is greater than the parent's last
  rank_greater : last_of path < rank
  rank_greater =
      let own = left_at q (left_in lay w i) in
      let begins : prefix longer own ≡ true =
      begins_first longer (suc d) (record { index = child.index; some = child.some; within = child.few }) child.lefts in
      let long : suc d ≤ length own = omega (arith, prefix-length longer own begins, child.depth) in
      let step : suc (d - 1) ≡ d = omega (arith, after.deep) in
      let whole : longer ≡ take (suc d) own = prefix-take longer own begins ∙ ap (λ (m : ℕ). take m own) child.depth in
      let at_last : last_of path ≡ get_or own (d - 1) 0 =
      ap (λ (m : ℕ). get_or path (m - 1) 0) kids.depth
      ∙ sym (get_or-append path (rank ∷ []) 0 (d - 1) (omega (arith, kids.depth, after.deep)))
      ∙ ap (λ (l : List ℕ). get_or l (d - 1) 0) whole ∙ get_or-take (suc d) own (d - 1) 0 (omega arith) in
      let at-rank : rank ≡ get_or own d 0 =
      sym (get_or_at path rank [] 0 d kids.depth) ∙ ap (λ (l : List ℕ). get_or l d 0) whole
      ∙ get_or-take (suc d) own d 0 (omega arith) in
      let rises : get_or own (d - 1) 0 < get_or own (suc (d - 1)) 0 =
      rising_below own (left_rising q (left_in lay w i)) (d - 1) (suc (d - 1)) (omega arith) (omega (arith, step, long)) in
      omega (arith, at_last, at-rank, rises, ap (λ (m : ℕ). get_or own m 0) step)

  -- and so its slot lies beyond the candidates
  pub slot_beyond : slot_of lay w (suc (last_of path)) ≤ slot_of lay w (last_of longer)
  slot_beyond =
      let below : last_of longer ≤ q.T = omega (arith, child.last) in
      omega (
        arith,
        offsets_rise lay q w child.index.ground (suc (last_of path)) (last_of longer)
            (omega (arith, rank_greater, last_longer path rank)) below,
      )

  same_candidates : (s : ℕ) → is_candidate (suc d - 1) longer (right_at q s) ≡ is_candidate d path (right_at q s)
  same_candidates s =
      let less : suc d - 1 ≡ d = omega arith in
      ap (λ (m : ℕ). is_candidate m longer (right_at q s)) less
      ∙ candidate_path d path longer (right_at q s) (omega (arith, kids.depth, after.deep)) (prefix_longer path rank)
      (omega (arith, kids.depth))

  child_sorted : slice from to w ≡ candidate_list q longer (suc d - 1)
  child_sorted =
      after.holds
      ∙ keep_same (λ s. is_candidate d path (right_at q s)) (λ s. is_candidate (suc d - 1) longer (right_at q s))
      (upto (length q.rights))
      (λ s. sym (same_candidates s))

  child_listing : Listing (length q.rights) (λ s. is_candidate (suc d - 1) longer (right_at q s)) (slice from to w)
  child_listing =
      subst (λ (l : List ℕ). Listing (length q.rights) (λ s. is_candidate (suc d - 1) longer (right_at q s)) l)
      (sym child_sorted)
      (listing_kept (length q.rights) (λ s. is_candidate (suc d - 1) longer (right_at q s)))

  child_node : Node lay st q longer w (suc d) i j from to p
  child_node =
      record {
        at = record {
          candidates = record {
            index = child.index;
            depth = child.depth;
            deep = omega arith;
            last = child.last;
            rise = after.rise;
            below = omega (arith, after.below, slot_beyond);
            few =
                listing_few (length q.rights) (λ s. is_candidate (suc d - 1) longer (right_at q s)) from to w
                (omega (arith, after.below, slot_bound child.index.ground (last_of path) after.last))
                child_listing;
            listing = λ asked. child_listing;
            sorted = λ deeper. child_sorted;
          };
          within = child.within;
          some = child.some;
          few = child.few;
          lefts = child.lefts;
        };
        underway = child.underway;
        rows = child.rows;
      }

  -- the child at its depth as the code writes it
  pub next_node : Node lay st q longer w (d + 1) i j from to p
  next_node = subst (λ (e : ℕ). Node lay st q longer w e i j from to p) (sym (add-one d)) child_node

  -- and its visit as that of a part of the children
  child_done : {w' : List ℕ} {one : Option Progress} → NodeVisited lay st q longer w w' (d + 1) i j p.tally one
      → PartDone lay st.budget (suc d) hi (λ path w. slot_of lay w (suc (last_of path)))
      (λ q path w i r. ChildrenAt lay st q path w d i hi from to r) q path w i p w' j one
  child_done {w'} {one} done =
      let low : lay.slots ≤ slot_of lay w (suc (last_of path)) = omega arith in
      let framed : Framed (slot_of lay w (suc (last_of path))) w w' = framed_lower slot_beyond done.framed in
      let visited : Visited q st.budget (suc d) (lefts_in lay w i j) p.tally one =
      subst (λ (e : ℕ). Visited q st.budget e (lefts_in lay w i j) p.tally one) (add-one d) done.visited in
      let same = slot_framed kids.index framed low (suc (last_of path)) after.last in
      record {
        facts = record { index = kids.index; few = kids.few; slots = low };
        visit = record { framed = framed; visited = visited; rows = done.rows };
        steady = same;
        next = λ u made.
            record {
              kids = kids_next at.kids more end low (record { framed = framed; visited = visited; rows = done.rows }) u made;
              after = record {
                deep = after.deep;
                last = after.last;
                rise = after.rise;
                below = omega (arith, after.below, same);
                holds =
                    frame-slice from to (slot_of lay w (suc (last_of path))) w w' after.below framed.frame ∙ after.holds;
              };
            };
      }

-- every child's visit so, from what the visit of a node promises
pub children_done : {lay : Layout} {st : WalkSettings} {w w' : List ℕ} {d i j hi from to : ℕ} {p : Progress} {one : Option Progress} → i < hi
    → RangeEnd lay w d i hi j
    → ((q : Query) (path : List ℕ) → Node lay st q path w (d + 1) i j from to p
    → NodeVisited lay st q path w w' (d + 1) i j p.tally one)
    → (q : Query) (path : List ℕ) → ChildrenAt lay st q path w d i hi from to p
    → PartDone lay st.budget (suc d) hi (λ path w. slot_of lay w (suc (last_of path)))
    (λ q path w i r. ChildrenAt lay st q path w d i hi from to r) q path w i p w' j one
children_done more end each q path at = child_done at more end (each q (child_path at.kids more) (next_node at more end))
