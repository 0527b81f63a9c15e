-- The children of a node in another order: those before one child and those after it, and then that child. The words change from
-- visit to visit only beyond the slot of the node, so that what is left stays as it was.
use Prim.Native.Nat.{ℕ, suc, ◌+◌, ◌-◌, ◌≤◌, ◌<◌}
use mathlib.Core.Path.{◌≡◌, sym, ap, subst, ◌∙◌}
use mathlib.Core.List.{List, [], ◌∷◌, ◌++◌}
use native.Mathlib.Omega.{arith}
use native.Mathlib.Numerals.{add-one}
use lib.ListN.{length}
use Rattle.std.specs.Prelude.{Option, Some, None}
use Rattle.lists.specs.Lists.{slice}
use Rattle.lists.proofs.Slices.{frame-slice}
use Rattle.join_spec.specs.Query.{Query}
use Rattle.join_spec.specs.Node.{last_of}
use Rattle.join_spec.specs.Walk.{is_candidate}
use Rattle.join_index.specs.Grouping.{right_at, key_at}
use Rattle.join_index.specs.Ground.{Listing}
use Rattle.join_index.specs.declared.Layout.{Layout}
use Rattle.join_index.specs.Asking.{RangeThere}
use Rattle.join_index.specs.Ranges.{lefts_in, left_in}
use Rattle.join_index.proofs.Orders.{range_none}
use Rattle.kept_rows.specs.Kept.{RowsKept}
use Rattle.join_nodes.specs.Narrowing.{slot_of}
use Rattle.join_nodes.specs.Visiting.{Underway, Node, Children, ChildrenAt, beginners}
use Rattle.join_nodes.specs.Visiting.{Visited, Framed, NodeVisited, ChildrenVisited}
use Rattle.kept_rows.specs.declared.Progress.{Progress}
use Rattle.join_nodes.specs.declared.WalkSettings.{WalkSettings}
use Rattle.join_nodes.proofs.RangeLaws.{range_length, range_split}
use Rattle.join_nodes.proofs.VisitLaws.{added_none, visited_some, kept_some, underway_next, visited_then, visited_before, visited_early, visited_late}
use Rattle.join_nodes.proofs.FrameLaws.{index_framed, slot_framed, range_framed, framed_then}
use Rattle.join_walk.specs.heaviest.Heaviest.{PartedAt, RangeBegins, RangeChosen}
use Rattle.join_check.specs.declared.keys.Span.{Span}
use Rattle.join_walk.proofs.heaviest.RangeParts.{chosen_begins}
use Rattle.join_walk.proofs.visit.ChildSteps.{underway_less}
use Rattle.join_walk.proofs.visit.ChildNodes.{next_node, slot_beyond}

-- the children before a place where a range begins, and those from there on
module _ {lay : Layout} {st : WalkSettings} {q : Query} {path w : List ℕ} {d lo hi from to : ℕ} {p : Progress}
    (at : ChildrenAt lay st q path w d lo hi from to p) (some : lo < hi) {i : ℕ} (begins : RangeBegins lay w d lo hi i) where
  kids : Children lay st q path w d lo hi p
  kids = at.kids

  there : RangeThere lay q w lo hi
  there = record { index = kids.index; some = some; within = kids.few }

  parted : PartedAt lay q w d kids.least kids.span (beginners q path (suc d)) lo i hi
  parted = begins.parted q there kids.least kids.span (beginners q path (suc d)) kids.lefts

  kids_before : ChildrenAt lay st q path w d lo i from to p
  kids_before =
      record {
        kids = record {
          index = kids.index;
          underway = underway_less (i - lo) (omega (arith, begins.high)) kids.underway;
          rows = kids.rows;
          depth = kids.depth;
          within = kids.within;
          upto = begins.low;
          few = omega (arith, begins.high, kids.few);
          least = kids.least;
          span = parted.key - kids.least;
          keys = omega (arith, parted.low, parted.high, kids.keys);
          further = kids.further;
          lefts = parted.front;
        };
        after = at.after;
      }

  kids_from : ChildrenAt lay st q path w d i hi from to p
  kids_from =
      record {
        kids = record {
          index = kids.index;
          underway = underway_less (hi - i) (omega (arith, begins.low)) kids.underway;
          rows = kids.rows;
          depth = kids.depth;
          within = kids.within;
          upto = begins.high;
          few = kids.few;
          least = parted.key;
          span = kids.least + kids.span - parted.key;
          keys = omega (arith, parted.low, parted.high, kids.keys);
          further = omega (arith, parted.low, kids.further);
          lefts = parted.back;
        };
        after = at.after;
      }

-- children and a child as they were, when only words from a slot on changed that lies beyond their candidates
module _ {lay : Layout} {st : WalkSettings} {q : Query} {path w w' : List ℕ} {slot d lo hi from to : ℕ} {p u : Progress}
    (low : lay.slots ≤ slot) (below : to ≤ slot) (framed : Framed slot w w') (left : Underway st q u.tally (hi - lo))
    (kept : RowsKept lay q w' u.top) where
  kids_framed : ChildrenAt lay st q path w d lo hi from to p → ChildrenAt lay st q path w' d lo hi from to u
  kids_framed at =
      let kids = at.kids in
      let after = at.after in
      record {
        kids = record {
          index = index_framed kids.index framed low;
          underway = left;
          rows = kept;
          depth = kids.depth;
          within = kids.within;
          upto = kids.upto;
          few = kids.few;
          least = kids.least;
          span = kids.span;
          keys = kids.keys;
          further = kids.further;
          lefts = range_framed kids.index framed low lo hi kids.few ∙ kids.lefts;
        };
        after = record {
          deep = after.deep;
          last = after.last;
          rise = after.rise;
          below = omega (arith, after.below, slot_framed kids.index framed low (suc (last_of path)) after.last);
          holds = frame-slice from to slot w w' below framed.frame ∙ after.holds;
        };
      }

  node_framed : Node lay st q path w d lo hi from to p → Node lay st q path w' d lo hi from to u
  node_framed node =
      let c = node.at.candidates in
      let same : slice from to w' ≡ slice from to w = frame-slice from to slot w w' below framed.frame in
      record {
        at = record {
          candidates = record {
            index = index_framed c.index framed low;
            depth = c.depth;
            deep = c.deep;
            last = c.last;
            rise = c.rise;
            below = omega (arith, c.below, slot_framed c.index framed low (last_of path) (omega (arith, c.last)));
            few = c.few;
            listing =
                λ asked.
                subst (λ (l : List ℕ). Listing (length q.rights) (λ s. is_candidate (d - 1) path (right_at q s)) l) (sym same)
                (c.listing asked);
            sorted = λ deeper. same ∙ c.sorted deeper;
          };
          within = node.at.within;
          some = node.at.some;
          few = node.at.few;
          lefts = range_framed c.index framed low lo hi node.at.few ∙ node.at.lefts;
        };
        underway = left;
        rows = kept;
      }

-- a range of the children chosen: first those before it
module _ {lay : Layout} {st : WalkSettings} {q : Query} {path w : List ℕ} {d lo hi from to : ℕ} {p : Progress}
    (at : ChildrenAt lay st q path w d lo hi from to p) (some : lo < hi) {r : Span} (chosen : RangeChosen lay w d lo hi r) where
  abbrev slot : ℕ
  slot = slot_of lay w (suc (last_of path))

  abbrev Before : List ℕ
  Before = lefts_in lay w lo r.lo

  abbrev Own : List ℕ
  Own = lefts_in lay w r.lo r.hi

  abbrev Behind : List ℕ
  Behind = lefts_in lay w r.hi hi

  whole : lefts_in lay w lo hi ≡ Before ++ (Own ++ Behind)
  whole =
      let few = at.kids.few in
      range_split lay q w lo r.lo hi at.kids.index chosen.begins.low chosen.begins.high few
      ∙ ap (λ (l : List ℕ). Before ++ l)
      (range_split lay q w r.lo r.hi hi at.kids.index chosen.rise chosen.within few)

  pub kids_below : ChildrenAt lay st q path w d lo r.lo from to p
  kids_below = kids_before at some chosen.begins

  module _ {v : List ℕ} {one : Option Progress} (first : ChildrenVisited lay st q path w v d lo r.lo p.tally one) where
    pub below_spent : one ≡ None → ChildrenVisited lay st q path w v d lo hi p.tally one
    below_spent spent =
        record {
          framed = first.framed;
          visited =
              subst (λ (l : List ℕ). Visited q st.budget (suc d) l p.tally one) (sym whole)
              (visited_early (Own ++ Behind) spent first.visited);
          rows = first.rows;
        }

    -- then those behind it
    module _ {near : Progress} (calm : one ≡ Some near) where
      abbrev under : lay.slots ≤ slot
      under = omega arith

      left_behind : Underway st q near.tally (hi - r.lo)
      left_behind =
          underway_next at.kids.underway (first.visited.added near calm)
          (omega (
            arith,
            range_length lay q w lo r.lo at.kids.index (omega (arith, chosen.begins.high, at.kids.few)),
            chosen.begins.low,
            chosen.begins.high,
          ))
          (first.visited.within near calm)

      pub kids_above : ChildrenAt lay st q path v d r.hi hi from to near
      kids_above =
          kids_framed under at.after.below first.framed (underway_less (hi - r.hi) (omega (arith, chosen.rise)) left_behind) (first.rows near calm)
          (kids_from at some (chosen_begins chosen))

      module _ {u : List ℕ} {two : Option Progress} (second : ChildrenVisited lay st q path v u d r.hi hi near.tally two) where
        same_slot : slot_of lay v (suc (last_of path)) ≡ slot
        same_slot = slot_framed at.kids.index first.framed under (suc (last_of path)) at.after.last

        framed : Framed slot w u
        framed = framed_then (omega (arith, same_slot)) first.framed second.framed

        behind : Visited q st.budget (suc d) Behind near.tally two
        behind =
            subst (λ (l : List ℕ). Visited q st.budget (suc d) l near.tally two)
            (range_framed at.kids.index first.framed under r.hi hi at.kids.few) second.visited

        -- whatever the own range and those behind it are, those before it were added
        all_visited : {x : List ℕ} {three : Option Progress} → Framed slot w x
            → Visited q st.budget (suc d) (Own ++ Behind) near.tally three
            → ((s : Progress) → three ≡ Some s → RowsKept lay q x s.top)
            → ChildrenVisited lay st q path w x d lo hi p.tally three
        all_visited {x} {three} changed done kept =
            record {
              framed = changed;
              visited =
                  subst (λ (l : List ℕ). Visited q st.budget (suc d) l p.tally three) (sym whole)
                  (visited_then (first.visited.added near calm) done);
              rows = kept;
            }

        pub above_spent : two ≡ None → ChildrenVisited lay st q path w u d lo hi p.tally two
        above_spent spent = all_visited framed (visited_late Own spent behind) second.rows

        -- last the chosen one
        module _ {far : Progress} (quiet : two ≡ Some far) where
          left_own : Underway st q far.tally (r.hi - r.lo)
          left_own =
              underway_next left_behind (behind.added far quiet)
              (omega (
                arith,
                range_length lay q w r.hi hi at.kids.index at.kids.few,
                chosen.rise,
                chosen.within,
              ))
              (behind.within far quiet)

          pub none_chosen : r.hi ≤ r.lo
              → ChildrenVisited lay st q path w u d lo hi p.tally (Some far)
          none_chosen none =
              all_visited framed
              (visited_before (behind.added far quiet)
              (visited_some (added_none q (suc d) (range_none lay w r.lo r.hi none)) (behind.within far quiet)))
              (kept_some (second.rows far quiet))

          module _ (more : r.lo < r.hi) where
            beyond : r.lo < hi
            beyond = omega (arith, more, chosen.within)

            own : ChildrenAt lay st q path w d r.lo hi from to p
            own = kids_from at some chosen.begins

            abbrev pub chosen_path : List ℕ
            chosen_path = path ++ ((key_at q d (left_in lay w r.lo) - 1) ∷ [])

            pub chosen_node : Node lay st q chosen_path u (d + 1) r.lo r.hi from to far
            chosen_node =
                node_framed under at.after.below framed left_own (second.rows far quiet) (next_node own beyond (chosen.end more))

            pub chosen_visited : {x : List ℕ} {three : Option Progress}
                → NodeVisited lay st q chosen_path u x (d + 1) r.lo r.hi far.tally three
                → ChildrenVisited lay st q path w x d lo hi p.tally three
            chosen_visited {x} {three} done =
                all_visited
                (framed_then (omega (
                  arith,
                  slot_framed at.kids.index framed under (last_of chosen_path)
                      (omega (arith, chosen_node.at.candidates.last)),
                  slot_beyond own beyond (chosen.end more),
                )) framed done.framed)
                (visited_before (behind.added far quiet)
                (subst (λ (l : List ℕ). Visited q st.budget (suc d) l far.tally three)
                (range_framed at.kids.index framed under r.lo r.hi (omega (arith, chosen.within, at.kids.few)))
                (subst (λ (e : ℕ). Visited q st.budget e (lefts_in lay u r.lo r.hi) far.tally three) (add-one d)
                done.visited)))
                done.rows
