-- `join_check::gather::gather` and `gather_children`, which call each other, meet their contracts. In both loops the invariant is `RangesLeft`:
-- the children's goes from the front, the node's from both ends to its longest child. The measures: twice the limit less the depth for
-- the children, and one more for the node; in the loops, how many left sets are to come, and how far the depth is from the limit.
use Rattle.std.proofs.Common.{◌-◌, ◌+◌, ◌*◌, ◌≤◌, ◌≡◌}
use Rattle.join_check.proofs.gather.Gathering.{RangesLeft}
use Rattle.join_check.proofs.gather.+gather_gather_children.Given as goal

abbrev pub decreases-gather : goal.decreases-gather
decreases-gather l = 2 * (l.limit - l.node.now.depth) + 1

abbrev pub decreases-gather_children : goal.decreases-gather_children
decreases-gather_children l = 2 * (l.limit - l.node.now.depth)

abbrev pub invariant-gather-loop-at : goal.invariant-gather-loop-at
invariant-gather-loop-at l = (l.initial.at.depth ≤ l.at.depth) × (l.at.from ≡ l.initial.at.from) × (l.at.to ≡ l.initial.at.to)
    × RangesLeft l.lay l.work l.e l.initial.at.lo l.initial.at.hi l.initial.at.from l.initial.at.to l.initial.r l.r l.at.lo l.at.hi

abbrev pub decreases-gather-loop-at : goal.decreases-gather-loop-at
decreases-gather-loop-at l = l.limit - l.at.depth

abbrev pub invariant-gather_children-loop-i : goal.invariant-gather_children-loop-i
invariant-gather_children-loop-i l = RangesLeft l.lay l.work l.e l.node.lo l.node.hi l.node.from l.node.to l.initial.r l.r l.i l.node.hi

abbrev pub decreases-gather_children-loop-i : goal.decreases-gather_children-loop-i
decreases-gather_children-loop-i l = l.node.hi - l.i
