-- `test_sets` meets its contract: the left side's refusal, or else what the right side gives.
use mathlib.Core.Path.{sym, ◌∙◌}
use Rattle.sets.proofs.Testing.{handed_on}
use Rattle.inputs.proofs.TestLaws.{sets_failed, sets_next}
use Rattle.inputs.proofs.test_sets.Goals as goal

pub returns-in_err-test_side : goal.returns-in_err-test_side
returns-in_err-test_side c =
    handed_on c.from_residual.result c.from_residual.ensures.1 ∙ sets_failed _ (sym c.in_err-test_side.ensures)

pub returns : goal.returns
returns c = c.test_side-2.ensures ∙ sets_next _ (sym c.test_side.ensures ∙ c.in_ok-test_side.was)
