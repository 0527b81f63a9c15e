-- `takes_rows` meets its contract: under Merge it asks whether the rows fit.
use Rattle.join.proofs.RowsChoice.{rows_fitting}
use Rattle.join.proofs.takes_rows.Goals as goal

pub returns-in-Merge : goal.returns-in-Merge
returns-in-Merge c = rows_fitting _ _ _ _ _ c.in-Merge.is c.rows_fit.ensures
