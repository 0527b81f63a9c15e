-- Lists of things with numbers: the one with a number, if no number occurs twice; and distinct numbers, one list after the other and
-- filtered.
use mathlib.Core.Path.{◌≡◌, refl, sym, ap, ◌∙◌}
use Prim.Native.Nat.{ℕ, zero, suc, ◌<◌}
use mathlib.Core.List.{List, [], ◌∷◌, ◌++◌, map}
use mathlib.Core.Bool.{Bool, true, false, not}
use native.Mathlib.Omega.{arith}
use borrow.Author.Tests.{eqb-true, eq-eqb}
use lib.Dec.{eqb}
use lib.ListN.{length, get_or}
use Rattle.lists.specs.Lists.{keep, onto, memb, distinct}
use Rattle.lists.proofs.Bools.{and_both, or_left_false, or_right_false, true-false, refuted}
use Rattle.lists.proofs.Distinct.{distinct_head, distinct_tail}
use Rattle.lists.proofs.Membership.{memb_head, memb_tail, memb_append}

module _ {A : Type 0} where
  -- a filter that all pass
  pub keep_every : (xs : List A) → keep (λ x. true) xs ≡ xs
  unfolding keep
  keep_every [] = refl
  keep_every (x ∷ xs) = rw (keep_every xs)

  -- ---- by a number that no two have

  module _ (number : A → ℕ) where
    pub none_of : (n : ℕ) (xs : List A) → memb n (map number xs) ≡ false → keep (λ x. eqb n (number x)) xs ≡ []
    unfolding keep memb
    none_of n [] e = refl
    none_of n (x ∷ xs) e =
        rw (or_left_false (eqb n (number x)) (memb n (map number xs)) e)
        (none_of n xs (or_right_false (eqb n (number x)) (memb n (map number xs)) e))

    -- the elements with the number of one that was kept are that one
    pub keep_number_kept : (p : A → Bool) (d : A) (xs : List A) → distinct (map number xs) ≡ true → (k : ℕ)
        → k < length (keep p xs)
        → keep (λ x. eqb (number (get_or (keep p xs) k d)) (number x)) xs ≡ get_or (keep p xs) k d ∷ []
    unfolding keep
    keep_number_kept p d [] once k within = absurd (omega arith)
    keep_number_kept p d (x ∷ xs) once k within =
        here (p x) (keep_number_kept p d xs (distinct_tail (number x) (map number xs) once)) k within
      where
        none : keep (λ y. eqb (number x) (number y)) xs ≡ []
        none = none_of (number x) xs (distinct_head (number x) (map number xs) once)

        other : (u : A) → keep (λ y. eqb (number u) (number y)) xs ≡ u ∷ [] → eqb (number u) (number x) ≡ false
        other u rest =
            refuted (eqb (number u) (number x)) (λ e.
            let same : number u ≡ number x = eqb-true (number u) (number x) e in
            let one : 1 ≡ 0 =
            ap length (sym rest) ∙ ap (λ (n : ℕ). length (keep (λ y. eqb n (number y)) xs)) same ∙ ap length none in
            omega arith)

        later : (u : A) → keep (λ y. eqb (number u) (number y)) xs ≡ u ∷ []
            → keep (λ y. eqb (number u) (number y)) (x ∷ xs) ≡ u ∷ []
        later u rest = rw (other u rest) rest

        here : (b : Bool)
            → ((k : ℕ) → k < length (keep p xs)
            → keep (λ y. eqb (number (get_or (keep p xs) k d)) (number y)) xs ≡ get_or (keep p xs) k d ∷ [])
            → (k : ℕ) → k < length (onto b x (keep p xs))
            → keep (λ y. eqb (number (get_or (onto b x (keep p xs)) k d)) (number y)) (x ∷ xs)
            ≡ get_or (onto b x (keep p xs)) k d ∷ []
        here false again k within = later (get_or (keep p xs) k d) (again k within)
        here true again zero within = rw (eq-eqb (number x) (number x) refl, none)
        here true again (suc k) within = later (get_or (keep p xs) k d) (again k (omega arith))

    -- and so are those with the number of any element
    pub keep_number : (d : A) (xs : List A) → distinct (map number xs) ≡ true → (k : ℕ) → k < length xs
        → keep (λ x. eqb (number (get_or xs k d)) (number x)) xs ≡ get_or xs k d ∷ []
    keep_number d xs once k within = rw (keep_every xs) at (keep_number_kept (λ x. true) d xs once k (rw (keep_every xs) within))

-- ---- distinct numbers, one list after the other and filtered

pub distinct_append : (xs ys : List ℕ) → distinct xs ≡ true → distinct ys ≡ true
    → ((y : ℕ) → memb y ys ≡ true → memb y xs ≡ false) → distinct (xs ++ ys) ≡ true
unfolding distinct
distinct_append [] ys dx dy apart = dy
distinct_append (x ∷ xs) ys dx dy apart =
    let new : memb x (xs ++ ys) ≡ false =
    rw (memb_append x xs ys, distinct_head x xs dx) (refuted (memb x ys) (λ m. true-false (memb_head x xs) (apart x m))) in
    and_both (ap not new)
    (distinct_append xs ys (distinct_tail x xs dx) dy (λ y m. outside y (apart y m)))
  where
    outside : (y : ℕ) → memb y (x ∷ xs) ≡ false → memb y xs ≡ false
    outside y f = refuted (memb y xs) (λ m. true-false (memb_tail y x xs m) f)

module _ {A : Type 0} (number : A → ℕ) (p : A → Bool) where
  memb_kept : (n : ℕ) (xs : List A) → memb n (map number xs) ≡ false → memb n (map number (keep p xs)) ≡ false
  unfolding memb keep
  memb_kept n [] e = refl
  memb_kept n (x ∷ xs) e = here (p x) (memb_kept n xs (or_right_false (eqb n (number x)) (memb n (map number xs)) e))
    where
      here : (b : Bool) → memb n (map number (keep p xs)) ≡ false → memb n (map number (onto b x (keep p xs))) ≡ false
      here true rest = rw (or_left_false (eqb n (number x)) (memb n (map number xs)) e) rest
      here false rest = rest

  pub distinct_kept : (xs : List A) → distinct (map number xs) ≡ true → distinct (map number (keep p xs)) ≡ true
  unfolding distinct keep
  distinct_kept [] d = refl
  distinct_kept (x ∷ xs) d = here (p x) (distinct_kept xs (distinct_tail (number x) (map number xs) d))
    where
      here : (b : Bool) → distinct (map number (keep p xs)) ≡ true → distinct (map number (onto b x (keep p xs))) ≡ true
      here true rest = and_both (ap not (memb_kept (number x) xs (distinct_head (number x) (map number xs) d))) rest
      here false rest = rest
