-- A join whose rule is a number: the rule of each, and a call where the number's test fails and where it passes.
use Prim.Native.Nat.{ℕ}
use mathlib.Core.Path.{◌≡◌, refl, sym, ap, subst, ◌∙◌}
use mathlib.Core.List.{List}
use mathlib.Core.Bool.{Bool, true, false, cond}
use native.Mathlib.Omega.{arith}
use borrow.Author.Tests.{eq-eqb, ne_eqb}
use lib.Dec.{eqb, ltb}
use Rattle.std.specs.Prelude.{Result, Err, Ok, ⊤}
use Rattle.sets.specs.Refusals.{refuse_if, unless, clears}
use Rattle.sets.specs.declared.Refusal.{Refusal}
use Rattle.sets.specs.declared.Refusal.TheVariants.{BadSettings}
use Rattle.sets.proofs.Testing.{failed_same}
use Rattle.inputs.specs.Input.{Input}
use Rattle.join_spec.specs.declared.Rule.{Rule}
use Rattle.join_spec.specs.declared.Rule.TheVariants.{Merge, Check, Weighed}
use Rattle.join_spec.specs.declared.Weights.{Weights}
use Rattle.join_spec.specs.Query.{settings_of}
use Rattle.join_spec.specs.Answer.{room_of, join_answer, JoinCall, RunCall}
use Rattle.join.specs.Numbered.{rule_of, numbered_answer}
use Rattle.join_spec.specs.declared.Counts.{Counts}

pub rule_merge : (number : ℕ) (weights : Weights) → number ≡ 0 → Merge ≡ rule_of number weights
rule_merge number weights e =
    sym (ap (λ (b : Bool). cond b Merge (cond (eqb number 1) Check (Weighed weights))) (eq-eqb number 0 e))

pub rule_check : (number : ℕ) (weights : Weights) → (number ≡ 0 → ⊥) → number ≡ 1 → Check ≡ rule_of number weights
rule_check number weights n e =
    sym
    (ap (λ (b : Bool). cond b Merge (cond (eqb number 1) Check (Weighed weights))) (ne_eqb number 0 n)
    ∙ ap (λ (b : Bool). cond b Check (Weighed weights)) (eq-eqb number 1 e))

pub rule_weighed : (number : ℕ) (weights : Weights) → (number ≡ 0 → ⊥) → (number ≡ 1 → ⊥)
    → Weighed weights ≡ rule_of number weights
rule_weighed number weights n e =
    sym
    (ap (λ (b : Bool). cond b Merge (cond (eqb number 1) Check (Weighed weights))) (ne_eqb number 0 n)
    ∙ ap (λ (b : Bool). cond b Check (Weighed weights)) (ne_eqb number 1 e))

module _ (i : Input) (limit : ℕ) (ranks : List ℕ) (budget number : ℕ) (weights : Weights) (work pairs : List ℕ) where
  -- the answer by what the test of the number says
  by_test : Result ⊤ Refusal → Result Counts Refusal
  by_test tested =
      unless Err tested (join_answer i (settings_of limit ranks budget (rule_of number weights)) (room_of work pairs))

  abbrev right : Result Counts Refusal
  right = numbered_answer i limit ranks budget number weights (room_of work pairs)

  -- what its test refuses changes nothing
  pub number_failed : {why : Refusal} → refuse_if (ltb 2 number) BadSettings ≡ Err why
      → JoinCall right i work pairs work pairs (Err why)
  unfolding numbered_answer by_test
  number_failed {why} e =
      record { answer = sym (ap by_test e); pairs = sym (rw (keeps (ltb 2 number) e)); work_size = refl; work_kept_lem = λ kept. refl }
    where
      keeps : (above : Bool) → refuse_if above BadSettings ≡ Err why → clears why ≡ false
      keeps true h = ap clears (sym (failed_same BadSettings why h))
      keeps false h = let z : ◌≡◌ {A = ℕ} 0 1 = cc in absurd (omega arith)

  -- and a number that passes it is the run under its rule
  pub number_passed : (rule : Rule) {work' pairs' : List ℕ} {r : Result Counts Refusal} → refuse_if (ltb 2 number) BadSettings ≡ Ok tt
      → rule ≡ rule_of number weights → RunCall i (settings_of limit ranks budget rule) work pairs work' pairs' r
      → JoinCall right i work pairs work' pairs' r
  unfolding numbered_answer by_test
  number_passed rule passed is call =
      record {
        answer =
            call.answer
            ∙ ap (λ (r : Rule). join_answer i (settings_of limit ranks budget r) (room_of work pairs)) is
            ∙ sym (ap by_test passed);
        pairs = call.pairs;
        work_size = call.work_size;
        work_kept_lem = call.work_kept_lem;
      }

-- a call that gave an answer, with the answer that it should give
pub call_right : {right r : Result Counts Refusal} {i : Input} {work pairs work' pairs' : List ℕ}
    → JoinCall right i work pairs work' pairs' r → JoinCall right i work pairs work' pairs' right
call_right {right} {r} {i} {work} {pairs} {work'} {pairs'} call =
    subst (λ (a : Result Counts Refusal). JoinCall right i work pairs work' pairs' a) call.answer call
