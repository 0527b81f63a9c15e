-- The search beside the pairs with one right element: it finds a left element exactly when there is a pair, and finds the place of the
-- first pair. Over elements of any kind and any test of two of them.
use Prim.Native.Nat.{ℕ, suc, ◌+◌}
use mathlib.Core.Path.{◌≡◌, refl, sym, ap}
use mathlib.Core.List.{List, [], ◌∷◌, ◌++◌}
use mathlib.Core.Bool.{Bool, true, false, cond}
use native.Mathlib.Nat.{zero-add}
use native.Mathlib.Omega.{arith}
use lib.Dec.{ltb}
use lib.ListN.{take}
use borrow.Author.Tests.{lt-ltb}
use Rattle.lists.specs.Lists.{one, sum, count}
use Rattle.std.specs.Prelude.{Some, is_some}
use Rattle.std.proofs.lemmas.Option.{none-some, same_Some}
use Rattle.join_spec.specs.PairList.{onto_pair, row_from, pairs_from, count_pairs}
use Rattle.first_search_spec.specs.First.{found_at, first_from}

module _ {A B : Type 0} (test : A → B → Bool) (right : B) where
  pub first_counted : (l : ℕ) (lefts : List A)
      → is_some (first_from (λ left. test left right) l lefts).place ≡ ltb 0 (count_pairs test lefts (right ∷ []))
  unfolding first_from sum count
  first_counted l [] = refl
  first_counted l (left ∷ lefts) = by_first (test left right) (first_counted (suc l) lefts)
    where
      by_first : (b : Bool)
          → is_some (first_from (λ left. test left right) (suc l) lefts).place ≡ ltb 0 (count_pairs test lefts (right ∷ []))
          → is_some (cond b (found_at l) (first_from (λ left. test left right) (suc l) lefts)).place
          ≡ ltb 0 (one b + 0 + count_pairs test lefts (right ∷ []))
      by_first true later = sym (lt-ltb 0 (1 + 0 + count_pairs test lefts (right ∷ [])) (omega arith))
      by_first false later = rw (zero-add (count_pairs test lefts (right ∷ []))) later

  pub first_pair : (l : ℕ) (lefts : List A) {place : ℕ} → (first_from (λ left. test left right) l lefts).place ≡ Some place
      → take 2 (pairs_from test l lefts (right ∷ [])) ≡ place ∷ 0 ∷ []
  unfolding first_from pairs_from row_from
  first_pair l [] {place} e = absurd (none-some place e)
  first_pair l (left ∷ lefts) {place} e = by_first (test left right) (first_pair (suc l) lefts) e
    where
      by_first : (b : Bool)
          → ((first_from (λ left. test left right) (suc l) lefts).place ≡ Some place
          → take 2 (pairs_from test (suc l) lefts (right ∷ [])) ≡ place ∷ 0 ∷ [])
          → (cond b (found_at l) (first_from (λ left. test left right) (suc l) lefts)).place ≡ Some place
          → take 2 (onto_pair b l 0 [] ++ pairs_from test (suc l) lefts (right ∷ [])) ≡ place ∷ 0 ∷ []
      by_first true later found = ap (λ (n : ℕ). n ∷ 0 ∷ []) (same_Some l place found)
      by_first false later found = later found
