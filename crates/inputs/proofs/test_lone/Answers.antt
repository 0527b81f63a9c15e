-- `test_lone` meets its contract: the test of the items decides.
use mathlib.Core.Path.{sym, ◌∙◌}
use Rattle.inputs.proofs.TestLaws.{lone_passed, lone_failed}
use Rattle.inputs.proofs.test_lone.Goals as goal

pub returns-then-good_items : goal.returns-then-good_items
returns-then-good_items c = lone_passed _ _ _ (sym c.if-good_items.true ∙ c.good_items.ensures)

pub returns : goal.returns
returns c = lone_failed _ _ _ (sym c.if-good_items.false ∙ c.good_items.ensures)
