-- `validation::collections::first_bad` meets its contract: none is bad where the whole collection passes, else the search tells.
use mathlib.Core.Path.{sym, ◌∙◌}
use lib.Dec.{leb}
use Rattle.lists.proofs.Bools.{and_right}
use Rattle.sets.specs.Limits.{max_items}
use Rattle.sets.specs.Collections.{first_bad}
use Rattle.validation.specs.collections.WholeList.{is_good}
use Rattle.validation.proofs.collections.WholeList.{is_good_lem}
use Rattle.validation.proofs.collections.first_bad.Goals as goal

pub returns-then-all_good : goal.returns-then-all_good
returns-then-all_good c =
    let a = c.args in
    let verdict = first_bad a.t a.sets.now.ends.now a.sets.now.items.now in
    sym (is_good_lem verdict (and_right (leb a.t max_items) (is_good verdict) (sym c.all_good.ensures ∙ c.if-all_good.true)))
