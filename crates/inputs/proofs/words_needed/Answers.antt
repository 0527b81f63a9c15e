-- `words_needed` meets its contract: the sizes are small, so no sum wraps.
use native.Mathlib.Omega.{arith}
use Rattle.inputs.specs.Tests.{words_needed}
use Rattle.inputs.proofs.words_needed.Goals as goal

pub returns : goal.returns
unfolding words_needed
returns c = omega (arith, c.entries.ensures, c.entries-2.ensures)
