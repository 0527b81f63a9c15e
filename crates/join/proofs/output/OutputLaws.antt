-- The pair list after an answer: the pairs of a join, zeros after a refusal that clears.
use mathlib.Core.Path.{◌≡◌, sym, ap, ◌∙◌}
use Prim.Native.Nat.{ℕ}
use mathlib.Core.List.{List}
use mathlib.Core.Bool.{Bool, true, cond}
use lib.ListN.{length, replicate}
use Rattle.std.specs.Prelude.{Result, Err, Ok}
use Rattle.sets.specs.Refusals.{clears}
use Rattle.sets.specs.Lent.{filled_over}
use Rattle.sets.specs.declared.Refusal.{Refusal}
use Rattle.join_spec.specs.declared.Counts.{Counts}
use Rattle.join_spec.specs.Answer.{pairs_after}

module _ (pairs before : List ℕ) {answer : Result Counts Refusal} {after : List ℕ} where
  pub after_joined : {counts : Counts} → answer ≡ Ok counts → after ≡ filled_over pairs before → after ≡ pairs_after answer pairs before
  after_joined is e = e ∙ sym (ap (λ (a : Result Counts Refusal). pairs_after a pairs before) is)

  pub after_refused : {why : Refusal} → answer ≡ Err why → clears why ≡ true → after ≡ replicate (length before) 0
      → after ≡ pairs_after answer pairs before
  after_refused is clear e =
      e
      ∙ sym (ap (λ (b : Bool). cond b (replicate (length before) 0) before) clear)
      ∙ sym (ap (λ (a : Result Counts Refusal). pairs_after a pairs before) is)
