-- `item_order::order` meets its contract: an input that is refused, and one that is ordered.
use mathlib.Core.Path.{sym}
use Rattle.sets.proofs.Testing.{handed_on}
use Rattle.inputs.specs.Input.{Input, lent_input}
use Rattle.item_order_spec.proofs.Answers.{call_refused, call_ordered}
use Rattle.item_order.proofs.Filling.{can_fill}
use Rattle.item_order.proofs.order.Goals as goal
use Rattle.item_order.proofs.order.Goals.{Start}

-- the input of a call
abbrev input : Start → Input
input s = lent_input s.args.input.now

pub fill_ranks-requires : goal.fill_ranks-requires
fill_ranks-requires c = can_fill (input (goal.at.fill_ranks-requires c).Start) c.args.ranks.now (sym c.in_ok-test_order.ensures)

pub returns-in_err-test_order : goal.returns-in_err-test_order
returns-in_err-test_order c =
    rw (handed_on c.from_residual.result c.from_residual.ensures.1)
    (call_refused (input (goal.at.returns-in_err-test_order c).Start) c.args.falling c.args.ranks.now _ (sym c.in_err-test_order.ensures))

pub returns : goal.returns
returns c =
    call_ordered (input (goal.at.returns c).Start) c.args.falling c.args.ranks.now _ (sym c.in_ok-test_order.ensures) c.fill_ranks.ensures
