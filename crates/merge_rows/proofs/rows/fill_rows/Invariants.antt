-- `merge_rows::rows::fill_rows` meets its contract. The invariant: the rows are those of the first s right sets, and the next one begins
-- at `start`.
use Rattle.merge_rows.proofs.FillSteps.{RowsFilling}
use Rattle.merge_rows.proofs.rows.fill_rows.Given as goal

abbrev pub invariant-loop-s : goal.invariant-loop-s
invariant-loop-s l = RowsFilling l.t l.sets.ends.now l.sets.items.now l.initial.work l.work l.start l.s
