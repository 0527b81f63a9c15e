-- `bad_settings` meets its contract: each test in the definition's order.
use mathlib.Core.Path.{ap, ◌∙◌}
use mathlib.Core.Bool.{not}
use Rattle.join.proofs.validate.SettingsLaws.{many_items, no_limit, high_limit, rank_test}
use Rattle.join.proofs.validate.bad_settings.Goals as goal

pub returns-then-t-gt-MAX_ITEMS : goal.returns-then-t-gt-MAX_ITEMS
returns-then-t-gt-MAX_ITEMS c =
    let a = c.args in
    many_items a.t a.limit a.ranks.now c.if-t-gt-MAX_ITEMS.true

pub returns-then-limit-eq0 : goal.returns-then-limit-eq0
returns-then-limit-eq0 c =
    let a = c.args in
    no_limit a.t a.limit a.ranks.now c.if-t-gt-MAX_ITEMS.false c.if-limit-eq0.true

pub returns-then-limit-gt-MAX_LIMIT : goal.returns-then-limit-gt-MAX_LIMIT
returns-then-limit-gt-MAX_LIMIT c =
    let a = c.args in
    high_limit a.t a.limit a.ranks.now c.if-t-gt-MAX_ITEMS.false c.if-limit-eq0.false c.if-limit-gt-MAX_LIMIT.true

pub returns : goal.returns
returns c =
    let a = c.args in
    ap not c.is_permutation.ensures
    ∙ rank_test a.t a.limit a.ranks.now c.if-t-gt-MAX_ITEMS.false c.if-limit-eq0.false c.if-limit-gt-MAX_LIMIT.false
