-- Node visit and child loop meet their contracts together. The measures: twice the limit less the depth for the child loop, and one
-- more for the node visit, so that each call of the other falls. The child loop goes part after part. The invariant of the node's own
-- loop is `Descending`, and its measure how far the depth is from the limit. A turn of it ends in two ways: the other children were
-- visited, or there are none. What each step shows is in NodeStops, ChildSteps, ChildNodes and Descents, and in the contract of
-- `enter_node`.
use Prim.Native.Nat.{suc, ◌-◌, ◌*◌, ◌+◌}
use Rattle.join_spec.specs.Node.{last_of}
use Rattle.words.specs.flags.Flags.{Clear}
use Rattle.join_nodes.specs.Narrowing.{slot_of}
use Rattle.join_nodes.specs.Visiting.{ChildrenAt}
use Rattle.join_nodes.proofs.PartLoop.{Continuing}
use Rattle.join_walk.proofs.visit.Descents.{Descending}
use Rattle.join_walk.proofs.visit.+visit_children_visit_node.Given as goal

abbrev pub decreases-visit_children : goal.decreases-visit_children
decreases-visit_children l = 2 * (l.st.now.limit - l.node.now.depth)

abbrev pub decreases-visit_node : goal.decreases-visit_node
decreases-visit_node l = 2 * (l.st.now.limit - l.node.now.depth) + 1

abbrev pub invariant-visit_children-loop-i : goal.invariant-visit_children-loop-i
invariant-visit_children-loop-i l =
    Continuing l.lay l.st.budget (suc l.node.depth) l.node.hi (λ path w. slot_of l.lay w (suc (last_of path)))
    (λ q path w i r. ChildrenAt l.lay l.st q path w l.node.depth i l.node.hi l.node.from l.node.to r) l.initial.work l.node.lo l.initial.r l.work l.i l.r
    × Clear l.flags

abbrev pub decreases-visit_children-loop-i : goal.decreases-visit_children-loop-i
decreases-visit_children-loop-i l = l.node.hi - l.i

abbrev pub invariant-visit_node-loop-at : goal.invariant-visit_node-loop-at
invariant-visit_node-loop-at l =
    Descending l.lay l.st l.initial.work l.initial.at.depth l.initial.at.lo l.initial.at.hi l.initial.at.from l.initial.at.to l.initial.r l.work l.at.depth l.at.lo l.at.hi l.at.from l.at.to l.r × Clear l.flags

abbrev pub decreases-visit_node-loop-at : goal.decreases-visit_node-loop-at
decreases-visit_node-loop-at l = suc l.st.limit - l.at.depth
