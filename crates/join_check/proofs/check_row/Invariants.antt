-- `join_check::check_row` meets its contract. The invariant is `RowChecking`: the counters, with the checks of the places still
-- to come, are what they were with all.
use Rattle.join_check.proofs.RowChecks.{RowChecking}
use Rattle.join_check.proofs.check_row.Given as goal

abbrev pub invariant-loop-i : goal.invariant-loop-i
invariant-loop-i l = RowChecking l.lay l.work l.k l.e l.from l.to l.initial.r l.r l.i
