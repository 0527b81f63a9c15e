-- `test_join` meets its contract: each test in the table's order. The underscores are the join's inputs, which each goal names.
use mathlib.Core.Path.{sym, ◌∙◌}
use Rattle.sets.proofs.Testing.{handed_on}
use Rattle.join.proofs.validate.SettingsLaws.{settings_failed, sets_failed, work_last, sizes}
use Rattle.join.proofs.validate.test_join.Goals as goal

pub returns-then-bad_settings : goal.returns-then-bad_settings
returns-then-bad_settings c = settings_failed _ _ _ _ (sym c.bad_settings.ensures ∙ c.if-bad_settings.true)

pub test_work-requires : goal.test_work-requires
test_work-requires c = sizes _ _ _ 0 (sym c.bad_settings.ensures ∙ c.if-bad_settings.false) (sym c.in_ok-test_sets.ensures)

pub returns-in_err-test_sets : goal.returns-in_err-test_sets
returns-in_err-test_sets c =
    handed_on c.from_residual.result c.from_residual.ensures.1
    ∙ sets_failed _ _ _ _ (sym c.bad_settings.ensures ∙ c.if-bad_settings.false) (sym c.in_err-test_sets.ensures)

pub returns : goal.returns
returns c =
    c.test_work.ensures
    ∙ work_last _ _ _ _ (sym c.bad_settings.ensures ∙ c.if-bad_settings.false) (sym c.in_ok-test_sets.ensures)
