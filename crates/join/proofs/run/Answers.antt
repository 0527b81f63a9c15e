-- `run` meets its contract: a failed test is the join's answer and changes nothing; else the answer is the walk's. The
-- underscores are the join's inputs, which each goal names.
use mathlib.Core.Path.{sym}
use Rattle.sets.proofs.Testing.{handed_on}
use Rattle.join_spec.proofs.Accepted.{tests_passed}
use Rattle.join.proofs.CallLaws.{call_refused, call_walked}
use Rattle.join.proofs.run.Goals as goal

pub join_ready-requires : goal.join_ready-requires
join_ready-requires c = tests_passed _ _ _ _ (sym c.in_ok-test_join.ensures)

pub returns-in_err-test_join : goal.returns-in_err-test_join
returns-in_err-test_join c =
    rw (handed_on c.from_residual.result c.from_residual.ensures.1) (call_refused _ _ _ _ (sym c.in_err-test_join.ensures))

pub returns : goal.returns
returns c =
    call_walked _ _ _ _ (sym c.in_ok-test_join.ensures) c.join_ready.ensures.answer c.join_ready.ensures.pairs c.join_ready.auto.work
