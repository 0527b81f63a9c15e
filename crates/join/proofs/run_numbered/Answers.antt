-- `run_numbered` meets its contract: a number above 2 is a bad setting, and else it is the run. The underscores are the join's
-- inputs, which each goal names.
use mathlib.Core.Path.{sym}
use Rattle.sets.proofs.Testing.{handed_on}
use Rattle.join.proofs.ByNumber.{number_failed, number_passed}
use Rattle.join.proofs.run_numbered.Goals as goal

pub returns-in_err-test_rule : goal.returns-in_err-test_rule
returns-in_err-test_rule c =
    rw (handed_on c.from_residual.result c.from_residual.ensures.1) (number_failed _ _ _ _ _ _ _ _ (sym c.in_err-test_rule.ensures))

pub returns : goal.returns
returns c = number_passed _ _ _ _ _ _ _ _ _ (sym c.in_ok-test_rule.ensures) c.rule_of.ensures c.run.ensures
