-- A rank table that is a permutation of 0 .. T-1: its length, its bound, that no two items share a rank; and that a table with
-- these is one.
use mathlib.Core.Path.{◌≡◌}
use mathlib.Core.List.{List}
use mathlib.Core.Bool.{true, ◌&&◌}
use Prim.Native.Nat.{ℕ, ◌<◌}
use native.Mathlib.Omega.{arith}
use borrow.Author.Tests.{eqb-true, eq-eqb, ltb-true, lt-ltb}
use lib.Dec.{eqb, ltb}
use lib.ListN.{length, get_or}
use Rattle.lists.specs.Lists.{all, distinct}
use Rattle.lists.proofs.Bools.{and_left, and_right, and_both}
use Rattle.lists.proofs.Throughout.{all_at, all_make}
use Rattle.lists.proofs.Distinct.{distinct_at, distinct_make}
use Rattle.sets.specs.Ordered.{is_permutation}

module _ (T : ℕ) (ranks : List ℕ) (e : is_permutation T ranks ≡ true) where
  pub permutation_length : length ranks ≡ T
  unfolding is_permutation
  permutation_length =
      eqb-true (length ranks) T (and_left (eqb (length ranks) T) (all (λ r. ltb r T) ranks && distinct ranks) e)

  content : (all (λ r. ltb r T) ranks && distinct ranks) ≡ true
  unfolding is_permutation
  content = and_right (eqb (length ranks) T) (all (λ r. ltb r T) ranks && distinct ranks) e

  pub permutation_below : (i : ℕ) → i < T → get_or ranks i 0 < T
  permutation_below i below =
      ltb-true (get_or ranks i 0) T
      (all_at (λ r. ltb r T) 0 ranks (and_left (all (λ r. ltb r T) ranks) (distinct ranks) content) i
      (omega (arith, permutation_length)))

  pub permutation_injective : (i j : ℕ) → i < T → j < T → get_or ranks i 0 ≡ get_or ranks j 0 → i ≡ j
  permutation_injective i j here there same =
      distinct_at ranks (and_right (all (λ r. ltb r T) ranks) (distinct ranks) content) i j (omega (arith, permutation_length))
      (omega (arith, permutation_length)) same

pub permutation_make : (T : ℕ) (ranks : List ℕ) → length ranks ≡ T → ((i : ℕ) → i < T → get_or ranks i 0 < T)
    → ((i j : ℕ) → i < j → j < T → get_or ranks i 0 ≡ get_or ranks j 0 → ⊥) → is_permutation T ranks ≡ true
unfolding is_permutation
permutation_make T ranks long below apart =
    and_both (eq-eqb (length ranks) T long)
    (and_both (all_make (λ r. ltb r T) 0 ranks (λ i inside. lt-ltb (get_or ranks i 0) T (below i (omega arith))))
    (distinct_make ranks (λ i j less inside. apart i j less (omega arith))))
