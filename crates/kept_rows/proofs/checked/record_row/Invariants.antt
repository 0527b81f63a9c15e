-- `kept_rows::checked::record_row` meets its contract. The invariant is `Recording`: the confirmed ones of the places so far stand
-- from top on, and the counters have their checks.
use Rattle.kept_rows.proofs.checked.RecordLaws.{Recording}
use Rattle.kept_rows.proofs.checked.record_row.Given as goal

abbrev pub invariant-loop-i : goal.invariant-loop-i
invariant-loop-i l = Recording l.lay l.initial.work l.k l.e l.from l.to l.top l.initial.r l.work l.r l.n l.i
