-- `test_rule` meets its contract: a case on each side of 2.
use Rattle.join.proofs.validate.SettingsLaws.{rule_above, rule_within}
use Rattle.join.proofs.validate.test_rule.Goals as goal

pub returns-then-number-gt2 : goal.returns-then-number-gt2
returns-then-number-gt2 c = rule_above _ c.if-number-gt2.true

pub returns : goal.returns
returns c = rule_within _ c.if-number-gt2.false
