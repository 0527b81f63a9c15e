-- `merge_rows::rows::open_block` meets its contract: the words of a block are cleared before its first right set.
use native.Mathlib.Omega.{arith}
use Rattle.merge_rows.proofs.FillSteps.{block_opened, block_begun}
use Rattle.merge_rows.proofs.rows.open_block.Goals as goal

pub returns-then-s-eq0 : goal.returns-then-s-eq0
returns-then-s-eq0 c = block_opened (omega arith) c.clear.ensures

pub returns-else-s-eq0 : goal.returns-else-s-eq0
returns-else-s-eq0 c = block_begun (λ e. omega arith)
