-- `test_numbered` meets its contract: by what is found of the sets, and then by the two lengths.
use mathlib.Core.Path.{sym, ◌∙◌}
use Rattle.sets.proofs.Testing.{handed_on}
use Rattle.tag_writer_spec.proofs.Tests.{side_bad, side_even, side_fewer, side_more}
use Rattle.tag_writer.proofs.test_numbered.Goals as goal

pub returns-in_err-test_side : goal.returns-in_err-test_side
returns-in_err-test_side c =
    let a = c.args in
    handed_on c.from_residual.result c.from_residual.ensures.1
    ∙ side_bad a.t a.side a.from.now.numbers.now a.from.now.sets.ends.now a.from.now.sets.items.now (sym c.in_err-test_side.ensures)

pub returns-then-numbers-sets : goal.returns-then-numbers-sets
returns-then-numbers-sets c =
    let a = c.args in
    side_even a.t a.side a.from.now.numbers.now a.from.now.sets.ends.now a.from.now.sets.items.now (sym c.in_ok-test_side.ensures) c.if-numbers-sets.true

pub returns-then-numbers-sets-2 : goal.returns-then-numbers-sets-2
returns-then-numbers-sets-2 c =
    let a = c.args in
    side_fewer a.t a.side a.from.now.numbers.now a.from.now.sets.ends.now a.from.now.sets.items.now (sym c.in_ok-test_side.ensures) c.if-numbers-sets-2.true

pub returns : goal.returns
returns c =
    let a = c.args in
    side_more a.t a.side a.from.now.numbers.now a.from.now.sets.ends.now a.from.now.sets.items.now (sym c.in_ok-test_side.ensures) c.if-numbers-sets.false c.if-numbers-sets-2.false
