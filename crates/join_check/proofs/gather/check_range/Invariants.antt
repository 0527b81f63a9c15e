-- `join_check::gather::check_range` meets its contract. The invariant: the left sets from place i on are left.
use Rattle.join_check.proofs.gather.Gathering.{RangesLeft}
use Rattle.join_check.proofs.gather.check_range.Given as goal

abbrev pub invariant-loop-i : goal.invariant-loop-i
invariant-loop-i l = RangesLeft l.lay l.work l.e l.node.lo l.node.hi l.node.from l.node.to l.initial.r l.r l.i l.node.hi
