-- `test_table` meets its contract: a case for each return.
use mathlib.Core.Path.{sym, ◌∙◌}
use Rattle.sets.proofs.Testing.{handed_on}
use Rattle.tag_writer_spec.proofs.Tests.{table_items, table_other, table_whole}
use Rattle.tag_writer.proofs.test_table.Goals as goal

pub returns-in_err-test_items : goal.returns-in_err-test_items
returns-in_err-test_items c =
    handed_on c.from_residual.result c.from_residual.ensures.1 ∙ table_items c.args.t c.args.tags.now (sym c.in_err-test_items.ensures)

pub returns-then-tags-t : goal.returns-then-tags-t
returns-then-tags-t c = table_other c.args.t c.args.tags.now (sym c.in_ok-test_items.ensures) c.if-tags-t.true

pub returns : goal.returns
returns c = table_whole c.args.t c.args.tags.now (sym c.in_ok-test_items.ensures) c.if-tags-t.false
