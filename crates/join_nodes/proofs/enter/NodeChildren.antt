-- A node where the walk goes on below the limit: the left sets that end there come first and pair by path, and the others are its
-- children.
use Prim.Native.Nat.{ℕ, suc, ◌-◌, ◌≤◌, ◌<◌}
use mathlib.Core.Path.{◌≡◌, sym, ap, ap₂, subst, ◌∙◌}
use mathlib.Core.List.{List, ◌++◌}
use mathlib.Core.Bool.{Bool, true, ◌&&◌, not}
use native.Mathlib.Omega.{arith}
use borrow.Author.Tests.{not-true}
use lib.Dec.{eqb}
use lib.ListN.{length, take}
use Rattle.std.specs.Prelude.{Option, Some}
use Rattle.lists.specs.Lists.{all, prefix, sum, slice}
use Rattle.lists.proofs.Bools.{and_left, and_right}
use Rattle.lists.proofs.Throughout.{all_back}
use Rattle.lists.proofs.Filtering.{all_kept, all_keep}
use Rattle.lists.proofs.Summing.{sum_same_where}
use Rattle.join_spec.specs.Query.{Query}
use Rattle.join_spec.specs.Node.{last_of}
use Rattle.join_spec.specs.Walk.{Outcome, is_candidate, goes}
use Rattle.join_index.specs.Grouping.{left_at, right_at, key_at, order_from}
use Rattle.join_index.specs.Ground.{Listing}
use Rattle.join_index.specs.declared.Layout.{Layout}
use Rattle.join_index.proofs.GroundLaws.{offsets_rise}
use Rattle.join_index.specs.Asking.{Index}
use Rattle.join_index.specs.Ranges.{lefts_in}
use Rattle.join_check.specs.Counters.{checks_in}
use Rattle.join_check.specs.declared.Tally.{Tally}
use Rattle.join_nodes.specs.Rows.{row, path_pairs}
use Rattle.join_nodes.specs.Narrowing.{Candidates, slot_of}
use Rattle.join_nodes.specs.Visiting.{ChildrenAt, NodeVisited, ChildrenVisited, Visited, Added, Merged}
use Rattle.join_nodes.specs.Visiting.{Framed, beginners}
use Rattle.kept_rows.specs.declared.Progress.{Progress}
use Rattle.words.specs.declared.Part.{Part}
use Rattle.join_nodes.specs.declared.WalkSettings.{WalkSettings}
use Rattle.join_nodes.proofs.RangeLaws.{Cut, range_length, range_split}
use Rattle.join_nodes.proofs.Narrowing.{listing_kept}
use Rattle.join_nodes.proofs.Prefixes.{prefix-take}
use Rattle.join_nodes.proofs.RowLaws.{row_deeper}
use Rattle.join_nodes.proofs.PathLaws.{merged_checks}
use Rattle.join_nodes.proofs.VisitLaws.{visited_some, kept_some, visited_then, visited_rows, underway_next}
use Rattle.join_nodes.proofs.FrameLaws.{slot_framed, range_framed, framed_then}
use Rattle.join_nodes.specs.blocks.Blocks.{MergedEnd}
use Rattle.join_nodes.proofs.blocks.GroupSteps.{ended_at, going_on, ended_keys, going_keys, beginners-grouped, ended_cut}
use Rattle.join_nodes.proofs.blocks.BlockLaws.{Begin, Rooted, rows_merge, key_longer, all_and}
use Rattle.join_nodes.proofs.blocks.BlockVisits.{merged_added}
use Rattle.join_nodes.proofs.blocks.NodeStops.{node_rooted}
use Rattle.join_nodes.proofs.enter.NodeSteps.{Onward, index_after, after_length, node_range}

module _ {lay : Layout} {st : WalkSettings} {q : Query} {path w w' : List ℕ} {d lo hi from to : ℕ} {p : Progress} {part : Part}
    {top : ℕ} (so : Onward lay st q path w w' d lo hi from to p part top) (deeper : d < st.limit) where
  cands : Candidates lay q path w d from to
  cands = so.node.at.candidates

  index : Index lay q w
  index = cands.index

  framed : Framed (slot_of lay w (last_of path)) w w'
  framed = so.framed

  low : lay.slots ≤ slot_of lay w (last_of path)
  low = omega arith

  rest : List ℕ
  rest = beginners q path (suc d)

  grouped_lefts : lefts_in lay w lo hi ≡ ended_at q d rest ++ going_on q d rest
  unfolding rest
  grouped_lefts = so.node.at.lefts ∙ beginners-grouped q path d (omega (arith, so.node.underway.limit))

  module _ {mid : ℕ} (end : MergedEnd lay w' d lo hi mid) where
    parted : Cut lay w' lo mid hi (ended_at q d rest) (going_on q d rest)
    parted = ended_cut rest (node_range so) (range_framed index framed low lo hi so.node.at.few ∙ grouped_lefts) end

    ended_lefts : lefts_in lay w lo mid ≡ ended_at q d rest
    ended_lefts = sym (range_framed index framed low lo mid (omega (arith, end.high, so.node.at.few))) ∙ parted.front

    child_lefts : lefts_in lay w mid hi ≡ going_on q d rest
    child_lefts = sym (range_framed index framed low mid hi so.node.at.few) ∙ parted.back

    front_length : length (lefts_in lay w lo mid) ≡ mid - lo
    front_length = range_length lay q w lo mid index (omega (arith, end.high, so.node.at.few))

    ended_rooted : Rooted q path d (lefts_in lay w lo mid)
    unfolding rest
    ended_rooted =
        record {
          depth = cands.depth;
          deep = cands.deep;
          begin =
              subst (λ (l : List ℕ). Begin q path l) (sym ended_lefts)
              (all_keep (λ k. prefix path (left_at q k)) (λ k. eqb (key_at q d k) 0) rest
              (all_kept (λ k. prefix path (left_at q k)) (order_from q (q.limit - suc d) (suc d))));
        }

    front_keys : all (λ k. eqb (key_at q d k) 0) (lefts_in lay w lo mid) ≡ true
    front_keys = subst (λ (l : List ℕ). all (λ k. eqb (key_at q d k) 0) l ≡ true) (sym ended_lefts) (ended_keys q d rest)

    after_listing : Listing (length q.rights) (λ s. is_candidate d path (right_at q s)) (slice part.«from» part.to w')
    after_listing =
        subst (λ (l : List ℕ). Listing (length q.rights) (λ s. is_candidate d path (right_at q s)) l)
        (sym so.holds)
        (listing_kept (length q.rights) (λ s. is_candidate d path (right_at q s)))

    module _ {m : Tally} (merged : Merged (mid - lo) (part.to - part.«from») p.tally m) where
      pub merged_lefts : Added q d (lefts_in lay w lo mid) p.tally m
      merged_lefts =
          merged_added (lefts_in lay w lo mid)
          (λ is met.
          rows_merge ended_rooted (slice part.«from» part.to w') is met (sym so.on) front_keys after_listing
          ∙ ap₂ (λ (m c : ℕ). path_pairs m c is) front_length (after_length so))
          merged

      merged_budget : checks_in m ≤ st.budget
      merged_budget = omega (arith, merged_checks merged, so.node.underway.budget)

      -- no left set goes on
      pub all_merged : hi ≤ mid
          → NodeVisited lay st q path w w' d lo hi p.tally (Some (record { tally = m; top = top }))
      all_merged past =
          let same : mid ≡ hi = omega (arith, end.high) in
          record {
            framed = framed;
            visited =
                visited_some (subst (λ (n : ℕ). Added q d (lefts_in lay w lo n) p.tally m) same merged_lefts) merged_budget;
            rows = kept_some so.rows;
          }

      -- the others are the node's children
      pub node_children : mid < hi → ChildrenAt lay st q path w' d mid hi part.«from» part.to
          (record { tally = m; top = top })
      unfolding rest
      node_children some =
          record {
            kids = record {
              index = index_after so;
              underway = underway_next so.node.underway merged_lefts (omega (arith, front_length, end.low)) merged_budget;
              rows = so.rows;
              depth = cands.depth;
              within = omega (arith, so.node.underway.limit);
              upto = omega arith;
              few = so.node.at.few;
              least = 1;
              span = q.T;
              keys = omega arith;
              further = omega arith;
              lefts = range_framed index framed low mid hi so.node.at.few ∙ child_lefts;
            };
            after = record {
              deep = cands.deep;
              last = cands.last;
              rise = so.rise;
              below = omega (arith, so.below, slot_framed index framed low (suc (last_of path)) cands.last);
              holds = so.holds;
            };
          }

      child_begin : Begin q path (lefts_in lay w mid hi)
      unfolding rest
      child_begin =
          all_back (λ k. prefix path (left_at q k)) (lefts_in lay w lo mid) (lefts_in lay w mid hi)
          (subst (λ (l : List ℕ). Begin q path l) (range_split lay q w lo mid hi index end.low end.high so.node.at.few)
          (node_rooted so.node).begin)

      child_keys : all (λ k. not (eqb (key_at q d k) 0)) (lefts_in lay w mid hi) ≡ true
      child_keys =
          subst (λ (l : List ℕ). all (λ k. not (eqb (key_at q d k) 0)) l ≡ true) (sym child_lefts) (going_keys q d rest)

      rows_deeper : (is : Outcome → Bool) → sum (row is q (suc d)) (lefts_in lay w mid hi) ≡ sum (row is q d) (lefts_in lay w mid hi)
      rows_deeper is =
          sum_same_where (λ k. prefix path (left_at q k) && not (eqb (key_at q d k) 0)) (row is q (suc d)) (row is q d)
          (lefts_in lay w mid hi)
          (all_and (λ k. prefix path (left_at q k)) (λ k. not (eqb (key_at q d k) 0)) (lefts_in lay w mid hi) child_begin child_keys)
          (λ k both.
          let begin = and_left (prefix path (left_at q k)) (not (eqb (key_at q d k) 0)) both in
          let more = not-true (eqb (key_at q d k) 0) (and_right (prefix path (left_at q k)) (not (eqb (key_at q d k) 0)) both) in
          sym (row_deeper q d k is
          (subst (λ (n : ℕ). goes q (take n (left_at q k)) ≡ true) cands.depth
          (sym (ap (goes q) (prefix-take path (left_at q k) begin)) ∙ sym so.on))
          (key_longer q d k more) (omega (arith, so.node.underway.limit))))

      -- and their visit makes the node's
      pub children_visited : {w'' : List ℕ} {r : Option Progress} → ChildrenVisited lay st q path w' w'' d mid hi m r
          → NodeVisited lay st q path w w'' d lo hi p.tally r
      children_visited {w''} {r} done =
          record {
            framed = framed_then (omega (
              arith,
              slot_framed index framed low (suc (last_of path)) cands.last,
              offsets_rise lay q w index.ground (last_of path) (suc (last_of path)) (omega arith) cands.last,
            )) framed done.framed;
            visited =
                subst (λ (l : List ℕ). Visited q st.budget d l p.tally r)
                (sym (range_split lay q w lo mid hi index end.low end.high so.node.at.few))
                (visited_then merged_lefts
                (visited_rows (lefts_in lay w mid hi) rows_deeper
                (subst (λ (l : List ℕ). Visited q st.budget (suc d) l m r)
                (range_framed index framed low mid hi so.node.at.few)
                done.visited)));
            rows = done.rows;
          }
