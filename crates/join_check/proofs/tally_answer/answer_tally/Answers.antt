-- `answer_tally` meets its contract: a law for each of its three ends, and the sums fit as it requires.
use native.Mathlib.Omega.{arith}
use Rattle.join_check.proofs.tally_answer.AnswerLaws.{tally_spent, tally_short, tally_joined}
use Rattle.join_check.proofs.tally_answer.answer_tally.Goals as goal

pub returns-in_default : goal.returns-in_default
returns-in_default c = tally_spent _ _ c.in_default.is

pub overflow_add-count : goal.overflow_add-count
overflow_add-count c = record { fits = c.requires.pairs _ c.in-Some.is }

pub returns-then-places-count : goal.returns-then-places-count
returns-then-places-count c = tally_short _ _ _ c.in-Some.is c.if-places-count.true

pub overflow_add-result : goal.overflow_add-result
overflow_add-result c =
    omega (arith, c.requires.checks _ c.in-Some.is)

pub overflow_add-result-2 : goal.overflow_add-result-2
overflow_add-result-2 c =
    record { fits = c.requires.checks _ c.in-Some.is }

pub returns : goal.returns
returns c =
    tally_joined _ _ _ c.in-Some.is c.if-places-count.false
