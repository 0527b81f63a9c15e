-- Sums: of functions that agree, of two functions, over `++`, `map` and one more element, and bounds.
use Prim.Native.Nat.{ℕ, suc, ◌+◌, ◌*◌, ◌<◌, ◌≤◌}
use mathlib.Core.Path.{◌≡◌, refl, ap, ap₂}
use mathlib.Core.List.{List, [], ◌∷◌, ◌++◌, map}
use mathlib.Core.Bool.{Bool, true}
use native.Mathlib.Omega.{arith}
use native.Mathlib.Nat.{suc-mul}
use lib.ListN.{length, get_or, take}
use lib.Seq.{take-suc}
use Rattle.lists.specs.Lists.{sum, all}
use Rattle.lists.proofs.Bools.{and_left, and_right}

module _ {A : Type 0} where
  pub sum_same : (f g : A → ℕ) (xs : List A) → ((x : A) → f x ≡ g x) → sum f xs ≡ sum g xs
  unfolding sum
  sum_same f g [] h = refl
  sum_same f g (x ∷ xs) h = ap₂ (λ (a b : ℕ). a + b) (h x) (sum_same f g xs h)

  -- functions that agree where a test holds, over a list where it holds of all
  pub sum_same_where : (good : A → Bool) (f g : A → ℕ) (xs : List A) → all good xs ≡ true
      → ((x : A) → good x ≡ true → f x ≡ g x) → sum f xs ≡ sum g xs
  unfolding sum all
  sum_same_where good f g [] a h = refl
  sum_same_where good f g (x ∷ xs) a h =
      ap₂ (λ (m n : ℕ). m + n) (h x (and_left (good x) (all good xs) a))
      (sum_same_where good f g xs (and_right (good x) (all good xs) a) h)

  pub sum-add : (f g : A → ℕ) (xs : List A) → sum (λ (x : A). f x + g x) xs ≡ sum f xs + sum g xs
  unfolding sum
  sum-add f g [] = refl
  sum-add f g (x ∷ xs) = omega (arith, sum-add f g xs)

  pub sum_append : (f : A → ℕ) (xs ys : List A) → sum f (xs ++ ys) ≡ sum f xs + sum f ys
  unfolding sum
  sum_append f [] ys = omega arith
  sum_append f (x ∷ xs) ys = omega (arith, sum_append f xs ys)

  pub sum_bound : (f : A → ℕ) (k : ℕ) (xs : List A) → ((x : A) → f x ≤ k) → sum f xs ≤ length xs * k
  unfolding sum
  sum_bound f k [] h = omega arith
  sum_bound f k (x ∷ xs) h = omega (arith, h x, sum_bound f k xs h, suc-mul (length xs) k)

  -- one more element at the end of what is done
  pub sum-take-suc : (f : A → ℕ) (d : A) (l : List A) (i : ℕ) → i < length l
      → sum f (take (suc i) l) ≡ sum f (take i l) + f (get_or l i d)
  unfolding sum
  sum-take-suc f d l i below =
      rw (take-suc l i d below, sum_append f (take i l) (get_or l i d ∷ [])) (omega arith)

pub sum-map : {A B : Type 0} (f : A → B) (g : B → ℕ) (xs : List A) → sum g (map f xs) ≡ sum (λ x. g (f x)) xs
unfolding sum
sum-map f g [] = refl
sum-map f g (x ∷ xs) = ap (λ (n : ℕ). g (f x) + n) (sum-map f g xs)
