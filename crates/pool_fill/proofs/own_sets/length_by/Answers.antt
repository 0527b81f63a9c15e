-- `pool_fill::own_sets::length_by` meets its contract: by the mark.
use borrow.Author.Tests.{lt-ltb, le-ltb}
use native.Mathlib.Omega.{arith}
use Rattle.pool_scan.specs.right_slots.Slots.{pooled_mark}
use Rattle.pool_fill.proofs.own_sets.length_by.Goals as goal

pub returns-then-word-lt-POOLED_MARK : goal.returns-then-word-lt-POOLED_MARK
returns-then-word-lt-POOLED_MARK c = rw (lt-ltb c.args.word pooled_mark c.if-word-lt-POOLED_MARK.true)

pub returns-else-word-lt-POOLED_MARK : goal.returns-else-word-lt-POOLED_MARK
returns-else-word-lt-POOLED_MARK c = rw (le-ltb c.args.word pooled_mark (omega arith))
