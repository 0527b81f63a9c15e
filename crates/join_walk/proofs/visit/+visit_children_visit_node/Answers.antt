-- The child loop goes part after part; the node visit goes down to its chosen child, once the others were visited.
use mathlib.Core.Path.{refl, ◌∙◌}
use native.Mathlib.Omega.{arith}
use Rattle.join_nodes.proofs.Asked.{some_path, some-query}
use Rattle.join_nodes.proofs.PartLoop.{continuing_step, continuing_spent, continuing_end}
use Rattle.join_nodes.proofs.blocks.NodeStops.{goes_on, goes_not, stop_there, stop_visited}
use Rattle.join_walk.proofs.visit.ChildSteps.{kids_range, child_path}
use Rattle.join_walk.proofs.visit.ChildNodes.{next_node, children_done}
use Rattle.join_walk.proofs.visit.Descents.{node_left, descending_end, ask_below, spent_below, ask_above, spent_above, descending_step, descending_only}
use Rattle.join_walk.proofs.visit.+visit_children_visit_node.Goals as goal
use Rattle.join_walk.proofs.visit.+visit_children_visit_node.Goals.{visit_node-then-heavy-end+in_ok-r+in_ok-r-2, visit_node-else-heavy-end}

-- the child loop
pub visit_children-visit_node-requires : goal.visit_children-visit_node-requires
visit_children-visit_node-requires t c =
    let some = c.loop-i.invariant.0.some in
    let kids = some.holds.kids in (
      omega (arith, c.decreases, kids.within, kids.underway.limit),
      (
        record {
          query = some.query;
          path = child_path kids c.loop-i-test.true;
          holds = next_node some.holds c.loop-i-test.true c.range_end-j.ensures;
        },
        c.loop-i.invariant.1,
      ),
    )

-- a child was visited
pub visit_children-returns-in_err-r-clause-visited : goal.visit_children-returns-in_err-r-clause-visited
visit_children-returns-in_err-r-clause-visited t c =
    λ q path first.
    rw c.from_residual.ensures
    (continuing_spent c.loop-i.invariant.0 (omega (arith, c.range_end-j.ensures.more)) c.range_end-j.ensures.within
    (children_done c.loop-i-test.true c.range_end-j.ensures c.in_err-r.ensures.visited) refl q path first)

pub visit_children-loop-i-preserved : goal.visit_children-loop-i-preserved
visit_children-loop-i-preserved t c = (
  continuing_step c.loop-i.invariant.0 (omega (arith, c.range_end-j.ensures.more)) c.range_end-j.ensures.within
      (children_done c.loop-i-test.true c.range_end-j.ensures c.in_ok-r.ensures.visited)
      c.visit_node.auto.work refl,
  c.in_ok-r.ensures.clear,
)

pub visit_children-returns-clause-visited : goal.visit_children-returns-clause-visited
visit_children-returns-clause-visited t c =
    let inv = c.loop-i.invariant in
    continuing_end inv.0 c.loop-i-test.false inv.0.some.holds.kids.underway.budget (λ q path at. at.kids.rows)

-- the node visit: in its loop some node is left, and its visit ends the whole
pub visit_node-check_block-requires-clause-some_query : goal.visit_node-check_block-requires-clause-some_query
visit_node-check_block-requires-clause-some_query t c =
    some-query (node_left c.loop-at.invariant.0 c.loop-at-test.true c.requires.some_path)
    (λ q path node. stop_there node (goes_not node c.decide.ensures c.if-not-decide.true-raw))

pub visit_node-returns-then-not-decide-clause-visited : goal.visit_node-returns-then-not-decide-clause-visited
visit_node-returns-then-not-decide-clause-visited t c =
    descending_end c.loop-at.invariant.0 c.loop-at-test.true
    (λ q path node. stop_visited node (goes_not node c.decide.ensures c.if-not-decide.true-raw) c.check_block.ensures)

-- where it goes on, the node is entered
pub visit_node-enter_node-requires-clause-some_path : goal.visit_node-enter_node-requires-clause-some_path
visit_node-enter_node-requires-clause-some_path t c =
    some_path (node_left c.loop-at.invariant.0 c.loop-at-test.true c.requires.some_path)
    (λ q path node. record { node = node; on = goes_on node c.decide.ensures c.if-not-decide.false-raw })

pub visit_node-returns-then-at-on-clause-visited : goal.visit_node-returns-then-at-on-clause-visited
visit_node-returns-then-at-on-clause-visited t c =
    descending_end c.loop-at.invariant.0 c.loop-at-test.true
    (λ q path node.
    (c.in_ok-on.ensures.entered q path
    (record { node = node; on = goes_on node c.decide.ensures c.if-not-decide.false-raw })).over _ refl c.if-at-on.true)

-- its children are left, and a range of them is chosen
pub visit_node-heaviest_range-heavy-requires : goal.visit_node-heaviest_range-heavy-requires
visit_node-heaviest_range-heavy-requires t c =
    some-query (node_left c.loop-at.invariant.0 c.loop-at-test.true c.requires.some_path)
    (λ q path node.
    kids_range
    ((c.in_ok-on.ensures.entered q path
    (record { node = node; on = goes_on node c.decide.ensures c.if-not-decide.false-raw })).kids _ refl c.if-at-on.false).kids
    c.if-at-on.false)

pub visit_node-visit_children-requires : goal.visit_node-visit_children-requires
visit_node-visit_children-requires t c = (
  omega (arith, c.decreases, c.loop-at.invariant.0.deeper),
  (
    some_path (node_left c.loop-at.invariant.0 c.loop-at-test.true c.requires.some_path)
        (ask_below
        (λ q path node.
        c.in_ok-on.ensures.entered q path
        (record { node = node; on = goes_on node c.decide.ensures c.if-not-decide.false-raw }))
        c.if-at-on.false c.heaviest_range-heavy.ensures),
    c.in_ok-on.ensures.clear,
  ),
)

pub visit_node-returns-in_err-on-clause-visited : goal.visit_node-returns-in_err-on-clause-visited
visit_node-returns-in_err-on-clause-visited t c =
    λ q path first.
    rw c.from_residual.ensures
    (descending_end c.loop-at.invariant.0 c.loop-at-test.true
    (λ q path node.
    (c.in_err-on.ensures.entered q path
    (record { node = node; on = goes_on node c.decide.ensures c.if-not-decide.false-raw })).spent refl) q path first)

pub visit_node-returns-in_err-r-clause-visited : goal.visit_node-returns-in_err-r-clause-visited
visit_node-returns-in_err-r-clause-visited t c =
    λ q path first.
    rw c.from_residual-in_err-r.ensures
    (descending_end c.loop-at.invariant.0 c.loop-at-test.true
    (spent_below
    (λ q path node.
    c.in_ok-on.ensures.entered q path
    (record { node = node; on = goes_on node c.decide.ensures c.if-not-decide.false-raw }))
    c.if-at-on.false c.heaviest_range-heavy.ensures c.in_err-r.ensures.visited refl) q path first)

pub visit_node-visit_children-requires-then-heavy-end : goal.visit_node-visit_children-requires-then-heavy-end
visit_node-visit_children-requires-then-heavy-end t c = (
  omega (arith, c.decreases, c.loop-at.invariant.0.deeper),
  (
    some_path (node_left c.loop-at.invariant.0 c.loop-at-test.true c.requires.some_path)
        (ask_above
        (λ q path node.
        c.in_ok-on.ensures.entered q path
        (record { node = node; on = goes_on node c.decide.ensures c.if-not-decide.false-raw }))
        c.if-at-on.false c.heaviest_range-heavy.ensures c.in_ok-r.ensures.visited refl),
    c.in_ok-r.ensures.clear,
  ),
)

pub visit_node-returns-in_err-r-2-clause-visited : goal.visit_node-returns-in_err-r-2-clause-visited
visit_node-returns-in_err-r-2-clause-visited t c =
    λ q path first.
    rw c.from_residual-in_err-r-2.ensures
    (descending_end c.loop-at.invariant.0 c.loop-at-test.true
    (spent_above
    (λ q path node.
    c.in_ok-on.ensures.entered q path
    (record { node = node; on = goes_on node c.decide.ensures c.if-not-decide.false-raw }))
    c.if-at-on.false c.heaviest_range-heavy.ensures c.in_ok-r.ensures.visited refl c.in_err-r-2.ensures.visited refl)
    q path first)

-- the chosen child is left: the others were visited, or it is the only one
pub visit_node-loop-at-preserved : goal.visit_node-loop-at-preserved
visit_node-loop-at-preserved t c =
    elim c.if-heavy-end.branch [
      | visit_node-then-heavy-end+in_ok-r+in_ok-r-2 w ↦ rw (w.work-is, w.flags-is, w.at-is, w.r-is) (
        descending_step
            (λ q path node.
            c.in_ok-on.ensures.entered q path
            (record { node = node; on = goes_on node c.decide.ensures c.if-not-decide.false-raw }))
            c.if-at-on.false c.heaviest_range-heavy.ensures w.in_ok-r.ensures.visited refl
            w.in_ok-r-2.ensures.visited refl c.loop-at-test.true c.loop-at.invariant.0
            (w.visit_children-then-heavy-end.auto.work ∙ w.visit_children.auto.work ∙ c.enter_node.auto.work),
        w.in_ok-r-2.ensures.clear,
      )
      | visit_node-else-heavy-end w ↦ rw (w.work-is, w.flags-is, w.at-is, w.r-is) (
        descending_only
            (λ q path node.
            c.in_ok-on.ensures.entered q path
            (record { node = node; on = goes_on node c.decide.ensures c.if-not-decide.false-raw }))
            c.if-at-on.false c.heaviest_range-heavy.ensures (omega (arith, w.if-heavy-end.false)) c.loop-at-test.true
            c.loop-at.invariant.0 c.enter_node.auto.work,
        c.in_ok-on.ensures.clear,
      )
    ]
