-- The first set that is too long: the one before, or else this one, or none.
use Rattle.std.specs.Prelude.{Result, Err, Ok, ⊤}
use Rattle.std.proofs.Common.{◌≡◌, ℕ, ◌<◌, ◌≤◌, ltb, le-ltb, lt-ltb}
use Rattle.sets.specs.Limits.{max_set_length}
use Rattle.sets.specs.Refusals.{refuse_if, unless}
use Rattle.sets.specs.declared.Refusal.{Refusal}

pub long_before : (before : Result ⊤ Refusal) (all : ℕ) (next : Refusal) {why : Refusal} → before ≡ Err why
    → Err why ≡ unless Err before (refuse_if (ltb max_set_length all) next)
long_before before all next e = rw e

module _ (before : Result ⊤ Refusal) (all : ℕ) (why : Refusal) (e : before ≡ Ok tt) where
  pub long_now : max_set_length < all → Err why ≡ unless Err before (refuse_if (ltb max_set_length all) why)
  long_now h = rw (e, lt-ltb max_set_length all h)

  pub long_not : all ≤ max_set_length → Ok tt ≡ unless Err before (refuse_if (ltb max_set_length all) why)
  long_not h = rw (e, le-ltb max_set_length all h)
