-- Numbers of which no two are alike: `distinct` by places, of a mapped list, and of a list with one more number at its end.
use Prim.Native.Nat.{ℕ, zero, suc, ◌<◌}
use mathlib.Core.Path.{◌≡◌, refl, sym, ap, subst, ◌∙◌}
use mathlib.Core.List.{List, [], ◌∷◌, ◌++◌, map}
use mathlib.Core.Bool.{true, false, not}
use native.Mathlib.Omega.{arith}
use lib.Dec.{eqb}
use lib.ListN.{length, get_or}
use borrow.Author.Tests.{eqb-true, not-true}
use Rattle.lists.specs.Lists.{memb, distinct}
use Rattle.lists.proofs.Bools.{by_test, true-false, and_left, and_right, and_both, or_left_false, or_right_false}
use Rattle.lists.proofs.Bools.{refuted, or_right, eqb_comm}
use Rattle.lists.proofs.Membership.{memb_head, memb_tail, memb_append, memb-map, memb_at, Place, memb_place}
use Rattle.lists.proofs.Throughout.{any_elim}

-- the first number is not among the others, and those are distinct
pub distinct_head : (x : ℕ) (xs : List ℕ) → distinct (x ∷ xs) ≡ true → memb x xs ≡ false
unfolding distinct
distinct_head x xs d = not-true (memb x xs) (and_left (not (memb x xs)) (distinct xs) d)

pub distinct_tail : (x : ℕ) (xs : List ℕ) → distinct (x ∷ xs) ≡ true → distinct xs ≡ true
unfolding distinct
distinct_tail x xs d = and_right (not (memb x xs)) (distinct xs) d

pub distinct_at : (l : List ℕ) → distinct l ≡ true → (i j : ℕ) → i < length l → j < length l → get_or l i 0 ≡ get_or l j 0 → i ≡ j
distinct_at [] d i j here there same = absurd (omega arith)
distinct_at (x ∷ xs) d zero zero here there same = refl
distinct_at (x ∷ xs) d zero (suc j) here there same =
    true-false (rw (← same) at (memb_at xs j 0 (omega arith))) (distinct_head x xs d)
distinct_at (x ∷ xs) d (suc i) zero here there same =
    true-false (rw same at (memb_at xs i 0 (omega arith))) (distinct_head x xs d)
distinct_at (x ∷ xs) d (suc i) (suc j) here there same =
    ap suc (distinct_at xs (distinct_tail x xs d) i j (omega arith) (omega arith) same)

pub distinct_make : (l : List ℕ) → ((i j : ℕ) → i < j → j < length l → get_or l i 0 ≡ get_or l j 0 → ⊥) → distinct l ≡ true
unfolding distinct
distinct_make [] apart = refl
distinct_make (x ∷ xs) apart =
    and_both (by_test (memb x xs) (λ e. clash (memb_place x xs e)) (λ e. ap not e))
    (distinct_make xs (λ i j less below. apart (suc i) (suc j) (omega arith) (omega arith)))
  where
    clash : Place x xs → not (memb x xs) ≡ true
    clash p = absurd (apart 0 (suc p.at) (omega arith) (omega arith) (sym p.here))

-- under a function that keeps members apart
pub distinct-map : (f : ℕ → ℕ) (xs : List ℕ)
    → ((x y : ℕ) → memb x xs ≡ true → memb y xs ≡ true → f x ≡ f y → x ≡ y) → distinct xs ≡ true → distinct (map f xs) ≡ true
unfolding distinct
distinct-map f [] apart d = refl
distinct-map f (x ∷ xs) apart d =
    and_both
    (ap not (refuted (memb (f x) (map f xs)) (λ m.
    any_elim (λ (y : ℕ). eqb (f y) (f x)) xs (sym (memb-map f (f x) xs) ∙ m) (λ y there e.
    true-false
    (subst (λ (z : ℕ). memb z xs ≡ true) (apart y x (memb_tail y x xs there) (memb_head x xs) (eqb-true (f y) (f x) e)) there)
    (distinct_head x xs d)))))
    (distinct-map f xs (λ y z my mz e. apart y z (memb_tail y x xs my) (memb_tail z x xs mz) e) (distinct_tail x xs d))

pub distinct_last : (xs : List ℕ) (x : ℕ) → distinct xs ≡ true → memb x xs ≡ false → distinct (xs ++ (x ∷ [])) ≡ true
unfolding distinct memb
distinct_last [] x d m = refl
distinct_last (y ∷ xs) x d m =
    let here : not (memb y (xs ++ (x ∷ []))) ≡ true =
    rw (memb_append y xs (x ∷ []), eqb_comm y x, or_left_false (eqb x y) (memb x xs) m, distinct_head y xs d)
    in
    and_both here (distinct_last xs x (distinct_tail y xs d) (or_right_false (eqb x y) (memb x xs) m))

pub distinct_before : (xs : List ℕ) (x : ℕ) (ys : List ℕ) → distinct (xs ++ (x ∷ ys)) ≡ true → memb x xs ≡ false
unfolding memb
distinct_before [] x ys d = refl
distinct_before (y ∷ xs) x ys d =
    rw (distinct_before xs x ys (distinct_tail y (xs ++ (x ∷ ys)) d))
    (by_test (eqb x y) (λ e. true-false (later (eqb-true x y e)) (distinct_head y (xs ++ (x ∷ ys)) d)) (λ e. rw e))
  where
    later : x ≡ y → memb y (xs ++ (x ∷ ys)) ≡ true
    later e =
        memb_append y xs (x ∷ ys)
        ∙ or_right (memb y xs) (memb y (x ∷ ys)) (subst (λ (z : ℕ). memb y (z ∷ ys) ≡ true) (sym e) (memb_head y ys))
