-- Distinct numbers, told in one pass with a mark for each number that was met: a number is fresh if it is not marked, and is marked
-- then.
use mathlib.Core.Path.{◌≡◌, refl, sym, ◌∙◌, subst⁻¹}
use mathlib.Core.List.{List, [], ◌∷◌}
use mathlib.Core.Bool.{Bool, true, false, not, ◌&&◌, ◌||◌, and-true, and_assoc}
use Prim.Native.Nat.{ℕ, suc, ◌+◌, ◌<◌, ◌≤◌}
use native.Mathlib.Numerals.{add-one}
use native.Mathlib.Omega.{arith}
use borrow.Author.Tests.{ltb-true, eqb-true, eqb-false, eq-eqb}
use lib.Bits.{bit_or, or_add_and, and_le_l, and_le_r}
use lib.Dec.{ltb, eqb}
use lib.ListN.{length, get_or, set, drop, replicate, length-set, drop_of_length-le}
use lib.Seq.{get_or-set_same, get_or-set_other, drop-cons}
use Rattle.lists.specs.Lists.{all, distinct, memb}
use Rattle.lists.proofs.Bools.{by_test, and_left, and_right, and_both, same_test}
use Rattle.lists.proofs.Zeros.{get_d_zeros}

-- whether the numbers are unmarked and no two alike
unfoldable pub fresh_in : List ℕ → List ℕ → Bool
fresh_in seen [] = true
fresh_in seen (x ∷ xs) = eqb (get_or seen x 0) 0 && fresh_in (set seen x 1) xs

-- a number is unmarked after x was marked where it is not x and was unmarked before
unmarked : (seen : List ℕ) (x y : ℕ) → x < length seen
    → eqb (get_or (set seen x 1) y 0) 0 ≡ (not (eqb x y) && eqb (get_or seen y 0) 0)
unmarked seen x y inside =
    by_test (eqb x y)
    (λ e. let same : x ≡ y = eqb-true x y e in
    rw (e, ← same, get_or-set_same seen x 1 0 inside))
    (λ e. rw (e, get_or-set_other seen x y 1 0 (λ f. eqb-false x y e (sym f))))

swap : (a b c d : Bool) → ((not a && b) && (not c && d)) ≡ (not (a || c) && (b && d))
swap true b c d = refl
swap false b false d = refl
swap false true true d = refl
swap false false true d = refl

-- after x was marked, all are unmarked where x is not among them and all were unmarked before
all_unmarked : (seen : List ℕ) (x : ℕ) (xs : List ℕ) → x < length seen
    → all (λ y. eqb (get_or (set seen x 1) y 0) 0) xs ≡ (not (memb x xs) && all (λ y. eqb (get_or seen y 0) 0) xs)
unfolding all memb
all_unmarked seen x [] inside = refl
all_unmarked seen x (y ∷ ys) inside =
    rw (unmarked seen x y inside, all_unmarked seen x ys inside)
    (swap (eqb x y) (eqb (get_or seen y 0) 0) (memb x ys) (all (λ y. eqb (get_or seen y 0) 0) ys))

-- the pass decides what is asked, where each number has a mark
regroup : (u m d v : Bool) → (u && (d && (m && v))) ≡ ((m && d) && (u && v))
regroup true true d v = refl
regroup true false true v = refl
regroup true false false v = refl
regroup false true true v = refl
regroup false true false v = refl
regroup false false d v = refl

fresh_all : (seen xs : List ℕ) → all (λ x. ltb x (length seen)) xs ≡ true
    → fresh_in seen xs ≡ (distinct xs && all (λ x. eqb (get_or seen x 0) 0) xs)
unfolding fresh_in all distinct
fresh_all seen [] room = refl
fresh_all seen (x ∷ xs) room =
    let first = ltb x (length seen) in
    let others = all (λ y. ltb y (length seen)) xs in
    let inside : x < length seen = ltb-true x (length seen) (and_left first others room) in
    let room_after : all (λ y. ltb y (length (set seen x 1))) xs ≡ true =
    rw (length-set seen x 1) (and_right first others room)
    in
    rw (fresh_all (set seen x 1) xs room_after, all_unmarked seen x xs inside)
    (regroup (eqb (get_or seen x 0) 0) (not (memb x xs)) (distinct xs) (all (λ x. eqb (get_or seen x 0) 0) xs))

all_zeros : (n : ℕ) (xs : List ℕ) → all (λ x. eqb (get_or (replicate n 0) x 0) 0) xs ≡ true
unfolding all
all_zeros n [] = refl
all_zeros n (x ∷ xs) = rw (all_zeros n xs, get_d_zeros n x)

pub fresh_start : (seen xs : List ℕ) → seen ≡ replicate (length seen) 0 → all (λ x. ltb x (length seen)) xs ≡ true
    → fresh_in seen xs ≡ distinct xs
fresh_start seen xs clear room =
    let unmarked-all : all (λ x. eqb (get_or seen x 0) 0) xs ≡ true =
    subst⁻¹ (λ (l : List ℕ). all (λ x. eqb (get_or l x 0) 0) xs ≡ true) clear (all_zeros (length seen) xs)
    in
    fresh_all seen xs room ∙ rw (unmarked-all, and-true (distinct xs))

-- what was met twice so far is kept as the marks that were read, put together: none was where this is 0
none_again : (a b : ℕ) → eqb (bit_or a b) 0 ≡ (eqb a 0 && eqb b 0)
none_again a b =
    same_test (eqb (bit_or a b) 0) (eqb a 0 && eqb b 0)
    (λ e.
    let none : bit_or a b ≡ 0 = eqb-true (bit_or a b) 0 e in
    and_both
    (eq-eqb a 0 (omega (arith, none, or_add_and a b, and_le_r a b)))
    (eq-eqb b 0 (omega (arith, none, or_add_and a b, and_le_l a b))))
    (λ e.
    let first : a ≡ 0 = eqb-true a 0 (and_left (eqb a 0) (eqb b 0) e) in
    let second : b ≡ 0 = eqb-true b 0 (and_right (eqb a 0) (eqb b 0) e) in
    eq-eqb (bit_or a b) 0 (omega (arith, first, second, or_add_and a b)))

-- the pass from place i on, with what was met twice before it
module _ (i : ℕ) (seen xs : List ℕ) (again : ℕ) where
  pub fresh_next : i < length xs
      → (eqb (bit_or again (get_or seen (get_or xs i 0) 0)) 0 && fresh_in (set seen (get_or xs i 0) 1) (drop (i + 1) xs))
      ≡ (eqb again 0 && fresh_in seen (drop i xs))
  unfolding fresh_in
  fresh_next below =
      rw (drop-cons xs i 0 below, add-one i, none_again again (get_or seen (get_or xs i 0) 0))
      (and_assoc (eqb again 0) (eqb (get_or seen (get_or xs i 0) 0) 0) (fresh_in (set seen (get_or xs i 0) 1) (drop (suc i) xs)))

  pub fresh_end : length xs ≤ i → (eqb again 0 && fresh_in seen (drop i xs)) ≡ eqb again 0
  unfolding fresh_in
  fresh_end past = rw (drop_of_length-le xs {i = i} past, and-true (eqb again 0))
