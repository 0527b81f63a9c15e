-- `write` meets its contract: lists that are refused, and lists that are written.
use mathlib.Core.Path.{sym}
use Rattle.sets.proofs.Testing.{handed_on}
use Rattle.tag_file.specs.Loading.{read_lists}
use Rattle.tag_writer_spec.proofs.Tests.{lists_passed}
use Rattle.tag_writer_spec.proofs.Answers.{call_refused, call_passed}
use Rattle.tag_writer.proofs.write.Goals as goal

pub write_good-requires : goal.write_good-requires
write_good-requires c = lists_passed c.args.t (read_lists c.args.lists.now) (sym c.in_ok-test_lists.ensures)

pub returns-in_err-test_lists : goal.returns-in_err-test_lists
returns-in_err-test_lists c =
    rw (handed_on c.from_residual.result c.from_residual.ensures.1)
    (call_refused c.args.t (read_lists c.args.lists.now) c.args.file.now _ (sym c.in_err-test_lists.ensures))

pub returns : goal.returns
returns c =
    call_passed c.args.t (read_lists c.args.lists.now) c.args.file.now _ _ (sym c.in_ok-test_lists.ensures)
    c.write_good.ensures.answer c.write_good.ensures.file
