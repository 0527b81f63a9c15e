-- Filtering: `keep` by tests that agree, by one that passes all or none, twice, and by parts of a list; what holds throughout it,
-- how many it has, what it sums to and which numbers are in it.
use Prim.Native.Nat.{ℕ, ◌+◌}
use mathlib.Core.Path.{◌≡◌, refl, sym, ap, ap₂, ◌∙◌}
use mathlib.Core.List.{List, [], ◌∷◌, ◌++◌}
use mathlib.Core.Bool.{Bool, true, false, cond, ◌&&◌, ◌||◌, and-false}
use native.Mathlib.Omega.{arith}
use lib.Dec.{eqb}
use lib.ListN.{length}
use borrow.Author.Tests.{eqb-true, eq-eqb}
use Rattle.lists.specs.Lists.{one, onto, count, sum, keep, all, memb}
use Rattle.lists.proofs.Bools.{and_left, and_right, and_both, by_test, true-false, refuted}
use Rattle.lists.proofs.Membership.{memb_head, memb_tail}

module _ {A : Type 0} where
  -- tests that agree everywhere, or where a third holds that holds throughout
  pub keep_same : (p q : A → Bool) (xs : List A) → ((x : A) → p x ≡ q x) → keep p xs ≡ keep q xs
  unfolding keep
  keep_same p q [] h = refl
  keep_same p q (x ∷ xs) h = ap₂ (λ (b : Bool) (l : List A). onto b x l) (h x) (keep_same p q xs h)

  pub keep_same_where : (good p q : A → Bool) (xs : List A) → all good xs ≡ true
      → ((x : A) → good x ≡ true → p x ≡ q x) → keep p xs ≡ keep q xs
  unfolding keep all
  keep_same_where good p q [] a h = refl
  keep_same_where good p q (x ∷ xs) a h =
      ap₂ (λ (b : Bool) (l : List A). onto b x l) (h x (and_left (good x) (all good xs) a))
      (keep_same_where good p q xs (and_right (good x) (all good xs) a) h)

  -- a test that none passes, and one that all pass
  pub keep_none : (p : A → Bool) (xs : List A) → ((x : A) → p x ≡ false) → keep p xs ≡ []
  unfolding keep
  keep_none p [] h = refl
  keep_none p (x ∷ xs) h = rw (h x) (keep_none p xs h)

  pub keep_all : (p : A → Bool) (xs : List A) → all p xs ≡ true → keep p xs ≡ xs
  unfolding keep all
  keep_all p [] a = refl
  keep_all p (x ∷ xs) a =
      ap₂ (λ (b : Bool) (l : List A). onto b x l) (and_left (p x) (all p xs) a) (keep_all p xs (and_right (p x) (all p xs) a))

  pub keep_append : (p : A → Bool) (xs ys : List A) → keep p (xs ++ ys) ≡ keep p xs ++ keep p ys
  unfolding keep
  keep_append p [] ys = refl
  keep_append p (x ∷ xs) ys = rw (keep_append p xs ys) (kept (p x))
    where
      kept : (b : Bool) → onto b x (keep p xs ++ keep p ys) ≡ onto b x (keep p xs) ++ keep p ys
      kept true = refl
      kept false = refl

  -- twice
  pub keep-keep : (t p : A → Bool) (xs : List A) → keep p (keep t xs) ≡ keep (λ x. t x && p x) xs
  unfolding keep
  keep-keep t p [] = refl
  keep-keep t p (x ∷ xs) = kept (t x) (keep-keep t p xs)
    where
      kept : (b : Bool) → keep p (keep t xs) ≡ keep (λ x. t x && p x) xs
          → keep p (onto b x (keep t xs)) ≡ onto (b && p x) x (keep (λ x. t x && p x) xs)
      kept true e = ap (λ (l : List A). onto (p x) x l) e
      kept false e = e

  -- what passes need not be looked for where a second test fails that passing implies
  pub keep_through : (p t good : A → Bool) (xs : List A) → all good xs ≡ true
      → ((x : A) → good x ≡ true → p x ≡ true → t x ≡ true) → keep p (keep t xs) ≡ keep p xs
  unfolding keep all
  keep_through p t good [] a implies = refl
  keep_through p t good (x ∷ xs) a implies =
      let rest = keep_through p t good xs (and_right (good x) (all good xs) a) implies in
      by_test (t x)
      (λ e. rw e (ap (λ (l : List A). onto (p x) x l) rest))
      (λ e. rw (e, refuted (p x) (λ h. true-false (implies x (and_left (good x) (all good xs) a) h) e)) rest)

  -- what is kept passes the test, and what holds throughout still does
  pub all_kept : (p : A → Bool) (xs : List A) → all p (keep p xs) ≡ true
  unfolding keep all
  all_kept p [] = refl
  all_kept p (x ∷ xs) = kept (p x) refl (all_kept p xs)
    where
      kept : (b : Bool) → p x ≡ b → all p (keep p xs) ≡ true → all p (onto b x (keep p xs)) ≡ true
      kept true e a = and_both e a
      kept false e a = a

  pub all_keep : (good p : A → Bool) (xs : List A) → all good xs ≡ true → all good (keep p xs) ≡ true
  unfolding keep all
  all_keep good p [] a = refl
  all_keep good p (x ∷ xs) a =
      kept (p x) (and_left (good x) (all good xs) a) (all_keep good p xs (and_right (good x) (all good xs) a))
    where
      kept : (b : Bool) → good x ≡ true → all good (keep p xs) ≡ true → all good (onto b x (keep p xs)) ≡ true
      kept true e a = and_both e a
      kept false e a = a

  -- how many are kept, and how many of them pass a second test
  pub length-keep : (p : A → Bool) (xs : List A) → length (keep p xs) ≡ count p xs
  unfolding count keep
  length-keep p [] = refl
  length-keep p (x ∷ xs) = kept (p x) (length-keep p xs)
    where
      kept : (b : Bool) → length (keep p xs) ≡ count p xs → length (onto b x (keep p xs)) ≡ one b + count p xs
      kept true e = omega arith
      kept false e = omega arith

  pub count-keep : (t p : A → Bool) (xs : List A) → count p (keep t xs) ≡ count (λ x. t x && p x) xs
  unfolding count keep
  count-keep t p [] = refl
  count-keep t p (x ∷ xs) = kept (t x) (count-keep t p xs)
    where
      kept : (b : Bool) → count p (keep t xs) ≡ count (λ x. t x && p x) xs
          → count p (onto b x (keep t xs)) ≡ one (b && p x) + count (λ x. t x && p x) xs
      kept true e = ap (λ (n : ℕ). one (p x) + n) e
      kept false e = omega arith

  -- what is kept sums to what the elements that pass give
  pub sum-keep : (f : A → ℕ) (p : A → Bool) (xs : List A) → sum f (keep p xs) ≡ sum (λ x. cond (p x) (f x) 0) xs
  unfolding sum keep
  sum-keep f p [] = refl
  sum-keep f p (x ∷ xs) = kept (p x) (sum-keep f p xs)
    where
      kept : (b : Bool) → sum f (keep p xs) ≡ sum (λ x. cond (p x) (f x) 0) xs
          → sum f (onto b x (keep p xs)) ≡ cond b (f x) 0 + sum (λ x. cond (p x) (f x) 0) xs
      kept true e = ap (λ (n : ℕ). f x + n) e
      kept false e = omega (arith, e)

-- tests that agree on the members
pub keep_agree : (p q : ℕ → Bool) (xs : List ℕ) → ((x : ℕ) → memb x xs ≡ true → p x ≡ q x) → keep p xs ≡ keep q xs
unfolding keep
keep_agree p q [] h = refl
keep_agree p q (x ∷ xs) h =
    ap₂ (λ (b : Bool) (l : List ℕ). onto b x l) (h x (memb_head x xs)) (keep_agree p q xs (λ y m. h y (memb_tail y x xs m)))

-- a number is kept where it is there and passes
pub memb-keep : (p : ℕ → Bool) (xs : List ℕ) (x : ℕ) → memb x (keep p xs) ≡ (memb x xs && p x)
unfolding keep memb
memb-keep p [] x = refl
memb-keep p (y ∷ ys) x =
    by_test (eqb x y)
    (λ e. here (eqb-true x y e) (p y) refl (memb-keep p ys x))
    (λ e. there e (p y) (memb-keep p ys x))
  where
    here : x ≡ y → (b : Bool) → p y ≡ b → memb x (keep p ys) ≡ (memb x ys && p x)
        → memb x (onto b y (keep p ys)) ≡ ((eqb x y || memb x ys) && p x)
    here e true t ih = rw (eq-eqb x y e) (sym (ap p e ∙ t))
    here e false t ih =
        rw (eq-eqb x y e) (ih ∙ ap (λ (b : Bool). memb x ys && b) (ap p e ∙ t) ∙ and-false (memb x ys) ∙ sym (ap p e ∙ t))

    there : eqb x y ≡ false → (b : Bool) → memb x (keep p ys) ≡ (memb x ys && p x)
        → memb x (onto b y (keep p ys)) ≡ ((eqb x y || memb x ys) && p x)
    there e true ih = rw e ih
    there e false ih = rw e ih

-- the numbers of a filtered list, picked out of the whole list again
pub keep-memb : (p : ℕ → Bool) (xs : List ℕ) → keep (λ x. memb x (keep p xs)) xs ≡ keep p xs
keep-memb p xs =
    keep_agree (λ x. memb x (keep p xs)) p xs (λ x m. memb-keep p xs x ∙ ap (λ (b : Bool). b && p x) m)
