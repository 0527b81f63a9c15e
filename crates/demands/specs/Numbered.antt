-- A call of the exported join, whose rule is a number: the two clauses that the contract of `kitfinder_join` promises of it.
use Rattle.std.specs.Prelude.{ℕ, ◌≡◌, List}
use Rattle.inputs.specs.Input.{Input}
use Rattle.join_spec.specs.declared.Weights.{Weights}
use Rattle.join_spec.specs.Answer.{room_of, join_words, JoinCall}
use Rattle.join.specs.Numbered.{numbered_answer}

-- the words of its answer (its clause `answer`), and its lent lists before and after (its clause `lists`)
pub record NumberedCall (i : Input) (limit : ℕ) (ranks : List ℕ) (budget number : ℕ) (weights : Weights)
    (work before work' after words : List ℕ) : Type 0 where
  pub told : words ≡ join_words (numbered_answer i limit ranks budget number weights (room_of work before))
  pub lists : JoinCall (numbered_answer i limit ranks budget number weights (room_of work before)) i work before work' after
      (numbered_answer i limit ranks budget number weights (room_of work before))
