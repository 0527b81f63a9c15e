-- A call of the join whose rule is a number: with a number above 2 it is a bad setting, and with 0, 1 or 2 a call of the run.
use Prim.Native.Nat.{ℕ, ◌<◌, ◌≤◌}
use mathlib.Core.Path.{◌≡◌, ap, subst}
use mathlib.Core.List.{List}
use mathlib.Core.Bool.{Bool}
use borrow.Author.Tests.{lt-ltb, le-ltb}
use Rattle.std.specs.Prelude.{Result, Err, ⊤}
use Rattle.sets.specs.Refusals.{refuse_if, unless}
use Rattle.sets.specs.declared.Refusal.TheVariants.{BadSettings}
use Rattle.inputs.specs.Input.{Input}
use Rattle.join_spec.specs.declared.Weights.{Weights}
use Rattle.join_spec.specs.Query.{settings_of}
use Rattle.join_spec.specs.Answer.{room_of, join_answer, JoinCall, RunCall}
use Rattle.join.specs.Numbered.{rule_of, numbered_answer}
use Rattle.join_spec.specs.declared.Counts.{Counts}
use Rattle.sets.specs.declared.Refusal.{Refusal}

module _ (i : Input) (limit : ℕ) (ranks : List ℕ) (budget number : ℕ) (weights : Weights) (work pairs : List ℕ) where
  -- the answer by what the test of the number says
  by_test : Result ⊤ Refusal → Result Counts Refusal
  by_test tested =
      unless Err tested (join_answer i (settings_of limit ranks budget (rule_of number weights)) (room_of work pairs))

  abbrev right : Result Counts Refusal
  right = numbered_answer i limit ranks budget number weights (room_of work pairs)

  -- a greater number than 2 is a bad setting
  pub number_above : 2 < number → right ≡ Err BadSettings
  unfolding numbered_answer by_test
  number_above high = ap (λ (above : Bool). by_test (refuse_if above BadSettings)) (lt-ltb 2 number high)

  -- with 0, 1 or 2 it is a call of the run
  pub number_run : {work' pairs' : List ℕ} {r : Result Counts Refusal} → number ≤ 2 → JoinCall right i work pairs work' pairs' r
      → RunCall i (settings_of limit ranks budget (rule_of number weights)) work pairs work' pairs' r
  unfolding numbered_answer by_test
  number_run {work'} {pairs'} {r} low call =
      subst (λ (a : Result Counts Refusal). JoinCall a i work pairs work' pairs' r)
      (ap (λ (above : Bool). by_test (refuse_if above BadSettings)) (le-ltb 2 number low)) call
