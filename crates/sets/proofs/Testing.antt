-- Tests one after the other: they pass exactly where each does, and a refusal is told by its test.
use Prim.Native.Nat.{ℕ}
use mathlib.Core.Path.{◌≡◌, refl, ap}
use mathlib.Core.Bool.{Bool, true, false}
use native.Mathlib.Omega.{arith}
use Rattle.std.specs.Prelude.{Result, Err, Ok, IsErrAnd, ⊤}
use Rattle.sets.specs.Refusals.{refuse_if, unless}
use Rattle.sets.specs.declared.Refusal.{Refusal}

pub both_passed : (a b : Result ⊤ Refusal) → unless Err a b ≡ Ok tt → (a ≡ Ok tt) × (b ≡ Ok tt)
both_passed (Ok _) b e = (refl, e)
both_passed (Err why) b e = let z : ◌≡◌ {A = ℕ} 0 1 = cc in absurd (omega arith)

pub refuse_passed : (wrong : Bool) (why : Refusal) → refuse_if wrong why ≡ Ok tt → wrong ≡ false
refuse_passed true why e = let z : ◌≡◌ {A = ℕ} 0 1 = cc in absurd (omega arith)
refuse_passed false why e = refl

pub failed_same : (a b : Refusal) → ◌≡◌ {A = Result ⊤ Refusal} (Err a) (Err b) → a ≡ b
failed_same a b e = cc

-- a refusal that `?` hands on is the one that was found
pub handed_on : {A : Type 0} {why : Refusal} (r : Result A Refusal) → IsErrAnd r (λ found. found ≡ why) → r ≡ Err why
handed_on (Ok x) e = absurd e
handed_on (Err found) e = ap Err e
