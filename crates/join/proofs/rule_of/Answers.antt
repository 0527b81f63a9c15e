-- `rule_of` meets its contract: a case for each number.
use Rattle.join.proofs.ByNumber.{rule_merge, rule_check, rule_weighed}
use Rattle.join.proofs.rule_of.Goals as goal

pub returns-then-number-eq0 : goal.returns-then-number-eq0
returns-then-number-eq0 c = rule_merge _ _ c.if-number-eq0.true

pub returns-then-number-eq1 : goal.returns-then-number-eq1
returns-then-number-eq1 c = rule_check _ _ c.if-number-eq0.false c.if-number-eq1.true

pub returns : goal.returns
returns c = rule_weighed _ _ c.if-number-eq0.false c.if-number-eq1.false
