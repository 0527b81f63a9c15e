-- `first_search::test_first` meets its contract: the first test that fails decides, in the order of the definition.
use mathlib.Core.Path.{sym, ◌∙◌}
use Rattle.sets.specs.Collections.{Collection, lent_sets}
use Rattle.sets.proofs.Testing.{handed_on}
use Rattle.first_search_spec.proofs.FirstTests.{first_items_failed, first_lefts_failed, first_right_next}
use Rattle.first_search.proofs.test_first.Goals as goal
use Rattle.first_search.proofs.test_first.Goals.{Start}

-- the left sets of a call
abbrev lefts : Start → Collection
lefts s = lent_sets s.args.left.now

pub returns-in_err-test_items : goal.returns-in_err-test_items
returns-in_err-test_items c =
    handed_on c.from_residual.result c.from_residual.ensures.1
    ∙ first_items_failed c.args.t (lefts (goal.at.returns-in_err-test_items c).Start) c.args.right.now (sym c.in_err-test_items.ensures)

pub returns-in_err-test_side : goal.returns-in_err-test_side
returns-in_err-test_side c =
    handed_on c.from_residual-in_err-test_side.result c.from_residual-in_err-test_side.ensures.1
    ∙ first_lefts_failed c.args.t (lefts (goal.at.returns-in_err-test_side c).Start) c.args.right.now (sym c.in_ok-test_items.ensures) (sym c.in_err-test_side.ensures)

pub returns : goal.returns
returns c =
    first_right_next c.args.t (lefts (goal.at.returns c).Start) c.args.right.now (sym c.in_ok-test_items.ensures) (sym c.in_ok-test_side.ensures)
    c.test_lone.ensures
