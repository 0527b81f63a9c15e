-- `join_check::keys::range_end` meets its contract. The invariant is `Reaching`.
use Rattle.join_check.proofs.keys.RangeEnds.{Reaching}
use Rattle.join_check.proofs.keys.range_end.Given as goal

abbrev pub invariant-loop-j : goal.invariant-loop-j
invariant-loop-j l = Reaching l.lay l.work l.d l.i l.hi l.j
