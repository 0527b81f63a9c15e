use mathlib.Core.Path.{refl}
use native.Mathlib.Omega.{arith}
use Rattle.words.proofs.flags.Keeping.{keeping_start, keeping_step}
use Rattle.words.proofs.copies.Copying.{copying_end}
use Rattle.words.proofs.copies.copy_words.Goals as goal

pub loop-i-init : goal.loop-i-init
loop-i-init c = (keeping_start, omega arith)

pub loop-i-preserved : goal.loop-i-preserved
loop-i-preserved c = (
  keeping_step c.loop-i.invariant.0 c.requires c.loop-i-test.true refl,
  omega (arith, c.loop-i.invariant.1, c.loop-i-test.true),
)

pub returns : goal.returns
returns c = copying_end c.loop-i.invariant.0 c.loop-i.invariant.1 c.loop-i-test.false
