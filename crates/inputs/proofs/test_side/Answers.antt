-- `test_side` meets its contract: a case for each verdict.
use mathlib.Core.Path.{sym, ◌∙◌}
use Rattle.inputs.proofs.TestLaws.{side_passed, side_failed}
use Rattle.inputs.proofs.test_side.Goals as goal

pub returns-in-None : goal.returns-in-None
returns-in-None c = side_passed _ _ _ (sym c.first_bad.ensures ∙ c.in-None.is)

pub returns-in-Some : goal.returns-in-Some
returns-in-Some c = side_failed _ _ _ (sym c.first_bad.ensures ∙ c.in-Some.is)
