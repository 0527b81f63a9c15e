-- Bool membership: `memb` of a list's first number and the rest, of lists one after the other and of a mapped list, and the place
-- at which a member stands.
use Prim.Native.Nat.{ℕ, zero, suc, ◌<◌}
use mathlib.Core.Path.{◌≡◌, refl, sym, ap₂}
use mathlib.Core.List.{List, [], ◌∷◌, ◌++◌, map}
use mathlib.Core.Bool.{Bool, true, ◌||◌, false≢true, or_assoc}
use native.Mathlib.Omega.{arith}
use native.Mathlib.Nat.{not-suc-le-zero, le_of_suc-le-suc}
use lib.Dec.{eqb}
use lib.ListN.{length, get_or}
use borrow.Author.Tests.{eqb-true, eq-eqb}
use Rattle.lists.specs.Lists.{any, memb}
use Rattle.lists.proofs.Bools.{by_test, true-false, or_left, or_right, or_cases, eqb_comm}

pub memb_head : (x : ℕ) (xs : List ℕ) → memb x (x ∷ xs) ≡ true
unfolding memb
memb_head x xs = or_left (eqb x x) (memb x xs) (eq-eqb x x refl)

pub memb_tail : (x y : ℕ) (ys : List ℕ) → memb x ys ≡ true → memb x (y ∷ ys) ≡ true
unfolding memb
memb_tail x y ys h = or_right (eqb x y) (memb x ys) h

pub memb_cons : {P : Type 0} (x y : ℕ) (ys : List ℕ) → memb x (y ∷ ys) ≡ true → (x ≡ y → P) → (memb x ys ≡ true → P) → P
unfolding memb
memb_cons x y ys h here there = or_cases (eqb x y) (memb x ys) h (λ e. here (eqb-true x y e)) there

pub memb_nil : {P : Type 0} (x : ℕ) → memb x [] ≡ true → P
unfolding memb
memb_nil x h = absurd (false≢true h)

pub memb_append : (x : ℕ) (xs ys : List ℕ) → memb x (xs ++ ys) ≡ (memb x xs || memb x ys)
unfolding memb
memb_append x [] ys = refl
memb_append x (y ∷ xs) ys = rw (memb_append x xs ys) (sym (or_assoc (eqb x y) (memb x xs) (memb x ys)))

pub memb-map : (f : ℕ → ℕ) (y : ℕ) (xs : List ℕ) → memb y (map f xs) ≡ any (λ x. eqb (f x) y) xs
unfolding memb any
memb-map f y [] = refl
memb-map f y (x ∷ xs) = ap₂ (λ (a b : Bool). a || b) (eqb_comm y (f x)) (memb-map f y xs)

-- the elements of a list are in it
pub memb_at : (xs : List ℕ) (i d : ℕ) → i < length xs → memb (get_or xs i d) xs ≡ true
memb_at [] i d h = absurd (not-suc-le-zero h)
memb_at (x ∷ xs) zero d h = memb_head x xs
memb_at (x ∷ xs) (suc i) d h = memb_tail (get_or xs i d) x xs (memb_at xs i d (le_of_suc-le-suc h))

-- the place of a number that is among the numbers
pub record Place (x : ℕ) (l : List ℕ) : Type 0 where
  pub at : ℕ
  pub below : at < length l
  pub here : get_or l at 0 ≡ x

pub memb_place : (x : ℕ) (l : List ℕ) → memb x l ≡ true → Place x l
unfolding memb
memb_place x [] e = true-false e refl
memb_place x (y ∷ ys) e =
    by_test (eqb x y)
    (λ same. record { at = 0; below = omega arith; here = sym (eqb-true x y same) })
    (λ other. next (memb_place x ys (rw other at e)))
  where
    next : Place x ys → Place x (y ∷ ys)
    next p = record { at = suc p.at; below = omega arith; here = p.here }

-- a list with a member has a first element
pub memb-some : (x : ℕ) (l : List ℕ) → memb x l ≡ true → 0 < length l
memb-some x l there = omega (arith, (memb_place x l there).below)
