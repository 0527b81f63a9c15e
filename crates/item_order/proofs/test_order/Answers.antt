-- `item_order::test_order` meets its contract: the first test that fails decides, in the order of the definition.
use mathlib.Core.Path.{sym, ◌∙◌}
use Rattle.sets.proofs.Testing.{handed_on}
use Rattle.inputs.specs.Input.{Input, lent_input}
use Rattle.item_order_spec.proofs.Answers.{test_items, test_length, test_sets}
use Rattle.item_order.proofs.test_order.Goals as goal
use Rattle.item_order.proofs.test_order.Goals.{Start}

-- the input of a call
abbrev input : Start → Input
input s = lent_input s.args.input.now

pub returns-in_err-test_items : goal.returns-in_err-test_items
returns-in_err-test_items c =
    handed_on c.from_residual.result c.from_residual.ensures.1
    ∙ test_items (input (goal.at.returns-in_err-test_items c).Start) c.args.places (sym c.in_err-test_items.ensures)

pub returns-then-places-input : goal.returns-then-places-input
returns-then-places-input c =
    test_length (input (goal.at.returns-then-places-input c).Start) c.args.places (sym c.in_ok-test_items.ensures) c.if-places-input.true

pub returns : goal.returns
returns c =
    test_sets (input (goal.at.returns c).Start) c.args.places (sym c.in_ok-test_items.ensures) c.if-places-input.false c.test_sets.ensures
