-- `test_lists` meets its contract: the first test that fails decides, in the order of the definition.
use mathlib.Core.Path.{sym, ◌∙◌}
use Rattle.sets.proofs.Testing.{handed_on}
use Rattle.tag_file.specs.Loading.{read_lists}
use Rattle.tag_writer_spec.proofs.Tests.{lists_table, lists_left, lists_right}
use Rattle.tag_writer.proofs.test_lists.Goals as goal

pub returns-in_err-test_table : goal.returns-in_err-test_table
returns-in_err-test_table c =
    handed_on c.from_residual.result c.from_residual.ensures.1
    ∙ lists_table c.args.t (read_lists c.args.lists.now) _ (sym c.in_err-test_table.ensures)

pub returns-in_err-test_numbered : goal.returns-in_err-test_numbered
returns-in_err-test_numbered c =
    handed_on c.from_residual-in_err-test_numbered.result c.from_residual-in_err-test_numbered.ensures.1
    ∙ lists_left c.args.t (read_lists c.args.lists.now) (sym c.in_ok-test_table.ensures) _ (sym c.in_err-test_numbered.ensures)

pub returns : goal.returns
returns c =
    lists_right c.args.t (read_lists c.args.lists.now) (sym c.in_ok-test_table.ensures) (sym c.in_ok-test_numbered.ensures) c.test_numbered-2.ensures
