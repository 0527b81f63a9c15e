-- `kept_rows::share_row` meets its contract. The invariant is `Sharing`: some left sets have the row.
use Rattle.kept_rows.proofs.Sharing.{Sharing}
use Rattle.kept_rows.proofs.share_row.Given as goal

abbrev pub invariant-loop-j : goal.invariant-loop-j
invariant-loop-j l = Sharing l.lay l.initial.work l.lo l.hi l.from l.to l.work l.j
