-- The kinds of outcome together: a check is of one of the kinds that are checks, and no outcome is of two kinds. So checks are
-- counted kind by kind, and no more outcomes are counted than there are.
use Prim.Native.Nat.{ℕ, ◌+◌, ◌*◌, ◌≤◌}
use mathlib.Core.Path.{◌≡◌, refl, sym, ap₂, subst, ◌∙◌}
use mathlib.Core.List.{List, [], ◌∷◌}
use mathlib.Core.Bool.{Bool, false}
use native.Mathlib.Omega.{arith}
use lib.ListN.{length}
use Rattle.lists.specs.Lists.{one, count, sum}
use Rattle.lists.proofs.Summing.{sum_same, sum-add, sum_bound}
use Rattle.join_spec.specs.Walk.{Outcome, not_met, by_path, dropped, false_drop, confirmed}
use Rattle.join_spec.specs.Counting.{is_check}
use Rattle.join_spec.specs.Kinds.{Kind, path_pair, confirmed_check, dropped_check, false_check, is_of, kinds, check_kinds}

-- the kinds of one outcome
check-kinds : (o : Outcome) → one (is_check o) ≡ sum (λ kind. one (is_of kind o)) check_kinds
unfolding sum
check-kinds not_met = refl
check-kinds by_path = refl
check-kinds dropped = refl
check-kinds false_drop = refl
check-kinds confirmed = refl

one_kind : (o : Outcome) → sum (λ kind. one (is_of kind o)) kinds ≤ 1
unfolding sum
one_kind not_met = omega arith
one_kind by_path = omega arith
one_kind dropped = omega arith
one_kind false_drop = omega arith
one_kind confirmed = omega arith

-- a pair that is not met is of no kind
pub kind_met : (kind : Kind) → is_of kind not_met ≡ false
kind_met path_pair = refl
kind_met confirmed_check = refl
kind_met dropped_check = refl
kind_met false_check = refl

pub sum-zero : {A : Type 0} (l : List A) → sum (λ a. 0) l ≡ 0
unfolding sum
sum-zero [] = refl
sum-zero (x ∷ xs) = omega (arith, sum-zero xs)

-- the sums of a table by rows are those by columns
sum_swap : {A B : Type 0} (f : A → B → ℕ) (xs : List A) (ys : List B)
    → sum (λ x. sum (λ y. f x y) ys) xs ≡ sum (λ y. sum (λ x. f x y) xs) ys
unfolding sum
sum_swap f [] ys = sym (sum-zero ys)
sum_swap f (x ∷ xs) ys =
    ap₂ (λ (a b : ℕ). a + b) refl (sum_swap f xs ys) ∙ sym (sum-add (λ y. f x y) (λ y. sum (λ x. f x y) xs) ys)

module _ {A : Type 0} (outcomes : A → Outcome) where
  -- a count over a list of outcomes, kind by kind
  count-kinds : (ks : List Kind) (l : List A)
      → sum (λ a. sum (λ kind. one (is_of kind (outcomes a))) ks) l ≡ sum (λ kind. count (λ a. is_of kind (outcomes a)) l) ks
  unfolding sum count
  count-kinds ks [] = sym (sum-zero ks)
  count-kinds ks (x ∷ xs) =
      ap₂ (λ (a b : ℕ). a + b) refl (count-kinds ks xs)
      ∙ sym (sum-add (λ kind. one (is_of kind (outcomes x))) (λ kind. count (λ a. is_of kind (outcomes a)) xs) ks)

  count_ones : (l : List A) → count (λ a. is_check (outcomes a)) l ≡ sum (λ a. one (is_check (outcomes a))) l
  unfolding sum count
  count_ones [] = refl
  count_ones (x ∷ xs) = ap₂ (λ (a b : ℕ). a + b) refl (count_ones xs)

  pub count_checks : (l : List A)
      → count (λ a. is_check (outcomes a)) l ≡ sum (λ kind. count (λ a. is_of kind (outcomes a)) l) check_kinds
  count_checks l =
      count_ones l
      ∙ sum_same (λ a. one (is_check (outcomes a))) (λ a. sum (λ kind. one (is_of kind (outcomes a))) check_kinds) l
      (λ a. check-kinds (outcomes a))
      ∙ count-kinds check_kinds l

  pub count_within : (l : List A) → sum (λ kind. count (λ a. is_of kind (outcomes a)) l) kinds ≤ length l
  count_within l =
      omega (
        arith,
        count-kinds kinds l,
        sum_bound (λ a. sum (λ kind. one (is_of kind (outcomes a))) kinds) 1 l (λ a. one_kind (outcomes a)),
      )

-- counts of many lists together, kind by kind
module _ {A : Type 0} (amount : A → (Outcome → Bool) → ℕ) (l : List A) where
  pub sum_checks : ((a : A) → amount a is_check ≡ sum (λ kind. amount a (is_of kind)) check_kinds)
      → sum (λ a. amount a is_check) l ≡ sum (λ kind. sum (λ a. amount a (is_of kind)) l) check_kinds
  sum_checks each =
      sum_same (λ a. amount a is_check) (λ a. sum (λ kind. amount a (is_of kind)) check_kinds) l each
      ∙ sum_swap (λ a kind. amount a (is_of kind)) l check_kinds

  pub sum_within : (n : ℕ) → ((a : A) → sum (λ kind. amount a (is_of kind)) kinds ≤ n)
      → sum (λ kind. sum (λ a. amount a (is_of kind)) l) kinds ≤ length l * n
  sum_within n each =
      subst (λ (m : ℕ). m ≤ length l * n) (sum_swap (λ a kind. amount a (is_of kind)) l kinds)
      (sum_bound (λ a. sum (λ kind. amount a (is_of kind)) kinds) n l each)
