-- The decision at a node as it was answered; and a node where the walk does not go on: its left sets are a block of checks
-- against its candidates.
use Prim.Native.Nat.{ℕ, ◌-◌, ◌≤◌}
use mathlib.Core.Path.{◌≡◌, sym, subst, ◌∙◌}
use mathlib.Core.List.{List}
use mathlib.Core.Bool.{Bool, true, false, not}
use native.Mathlib.Omega.{arith}
use borrow.Author.Tests.{not-true, not-false}
use lib.ListN.{length}
use Rattle.std.specs.Prelude.{Option}
use Rattle.lists.specs.Lists.{prefix, slice}
use Rattle.lists.proofs.Filtering.{all_kept}
use Rattle.lists.proofs.Slices.{length-slice}
use Rattle.sets.specs.Limits.{max_sets}
use Rattle.join_spec.specs.Query.{Query}
use Rattle.join_spec.specs.Node.{last_of}
use Rattle.join_spec.specs.Walk.{goes}
use Rattle.join_index.specs.Grouping.{left_at, order_from}
use Rattle.join_index.specs.declared.Layout.{Layout}
use Rattle.join_index.proofs.GroundLaws.{slot_bound}
use Rattle.join_index.specs.Asking.{Index}
use Rattle.join_index.specs.Ranges.{lefts_in}
use Rattle.join_check.specs.Checks.{RangesThere}
use Rattle.kept_rows.specs.Kept.{RowsKept}
use Rattle.join_nodes.specs.Narrowing.{Candidates, slot_of}
use Rattle.join_nodes.specs.Visiting.{Node, NodeAt, NodeVisited}
use Rattle.kept_rows.specs.declared.Progress.{Progress}
use Rattle.join_nodes.specs.declared.WalkSettings.{WalkSettings}
use Rattle.join_nodes.proofs.RangeLaws.{range_length}
use Rattle.join_nodes.proofs.NodeFacts.{stop_asks}
use Rattle.join_nodes.proofs.FrameLaws.{framed_none}
use Rattle.join_nodes.specs.block_checks.BlockChecks.{Small, Blocked}
use Rattle.join_nodes.proofs.blocks.BlockLaws.{Begin, Rooted, ranges_there, rows_stop}
use Rattle.join_nodes.proofs.blocks.BlockVisits.{block_visited}

module _ {lay : Layout} {st : WalkSettings} {q : Query} {path w : List ℕ} {d lo hi from to : ℕ} {p : Progress}
    (node : Node lay st q path w d lo hi from to p) where
  cands : Candidates lay q path w d from to
  cands = node.at.candidates

  index : Index lay q w
  index = cands.index

  pub node_rooted : Rooted q path d (lefts_in lay w lo hi)
  node_rooted =
      record {
        depth = cands.depth;
        deep = cands.deep;
        begin =
            subst (λ (l : List ℕ). Begin q path l) (sym node.at.lefts)
            (all_kept (λ k. prefix path (left_at q k)) (order_from q (q.limit - d) d));
      }

  part_within : to ≤ length w
  part_within =
      omega (
        arith,
        cands.below,
        slot_bound index.ground (last_of path) cands.last,
        (index.ground.inverted (last_of path) cands.last).rise,
      )

  lefts_few : hi - lo ≤ max_sets
  lefts_few = omega (arith, node.at.few, index.ground.left_few)

  -- the decision as it was answered, its outcome tested
  module _ {b : Bool} (decided : (q : Query) (path : List ℕ) → NodeAt lay q path w d lo hi from to → q.rule ≡ st.rule
      → b ≡ goes q path) where
    decision : b ≡ goes q path
    decision = decided q path node.at (sym node.underway.rule)

    pub goes_on : not b ≡ false → true ≡ goes q path
    goes_on test = sym (not-false b test) ∙ decision

    pub goes_not : not b ≡ true → false ≡ goes q path
    goes_not test = sym (not-true b test) ∙ decision

  -- not going on
  pub stop_there : false ≡ goes q path → RangesThere lay q w (d - 1) lo hi from to
  stop_there stop =
      ranges_there node_rooted index part_within node.at.few (cands.listing (stop_asks q path stop)) (omega arith)

  pub stop_small : Small st.budget lo hi from to p.tally
  stop_small =
      record {
        lefts = lefts_few;
        rights = omega (arith, cands.few, index.ground.right_few);
        rise = omega (arith, node.at.some);
        part = cands.rise;
        covered = node.underway.budget;
      }

  pub stop_visited : {r : Option Progress} → false ≡ goes q path → Blocked lay w st.budget (d - 1) lo hi from to p r
      → NodeVisited lay st q path w w d lo hi p.tally r
  stop_visited {r} stop block =
      record {
        framed = framed_none (slot_of lay w (last_of path)) w;
        visited = block_visited (stop_there stop) (range_length lay q w lo hi index node.at.few) (length-slice from to w part_within)
            (λ is met. rows_stop node_rooted (slice from to w) is met (sym stop) (cands.listing (stop_asks q path stop))) block;
        rows = λ u made. subst (RowsKept lay q w) (sym (block.top u made)) node.rows;
      }
