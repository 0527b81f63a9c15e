-- What holds throughout a list, or somewhere in it: `all`, `any` and `subset` by members, by places, for tests of which one
-- implies the other, and for the parts of a list. Of a filtered list see Filtering, of 0 .. n-1 Ranges, of a part Slices.
use Prim.Native.Nat.{ℕ, zero, suc, ◌<◌}
use mathlib.Core.Path.{◌≡◌, refl, sym, subst}
use mathlib.Core.List.{List, [], ◌∷◌, ◌++◌, map}
use mathlib.Core.Bool.{Bool, true, false, ◌||◌, false≢true, or_assoc}
use native.Mathlib.Omega.{arith}
use lib.ListN.{length, get_or, take, drop}
use Rattle.lists.specs.Lists.{all, any, memb, subset}
use Rattle.lists.proofs.Bools.{and_left, and_right, and_both, or_left, or_right, or_cases}
use Rattle.lists.proofs.Membership.{memb_head, memb_tail, memb_cons, memb_nil}

-- by members
module _ (p : ℕ → Bool) where
  pub all_elim : (xs : List ℕ) → all p xs ≡ true → (x : ℕ) → memb x xs ≡ true → p x ≡ true
  unfolding all
  all_elim [] a x h = memb_nil x h
  all_elim (y ∷ ys) a x h =
      memb_cons x y ys h
      (λ e. subst (λ (k : ℕ). p k ≡ true) (sym e) (and_left (p y) (all p ys) a))
      (λ m. all_elim ys (and_right (p y) (all p ys) a) x m)

  pub all_intro : (xs : List ℕ) → ((x : ℕ) → memb x xs ≡ true → p x ≡ true) → all p xs ≡ true
  unfolding all
  all_intro [] h = refl
  all_intro (y ∷ ys) h =
      and_both (h y (memb_head y ys)) (all_intro ys (λ x m. h x (memb_tail x y ys m)))

  pub any_intro : (xs : List ℕ) (x : ℕ) → memb x xs ≡ true → p x ≡ true → any p xs ≡ true
  unfolding any
  any_intro [] x m h = memb_nil x m
  any_intro (y ∷ ys) x m h =
      memb_cons x y ys m
      (λ e. or_left (p y) (any p ys) (subst (λ (k : ℕ). p k ≡ true) e h))
      (λ t. or_right (p y) (any p ys) (any_intro ys x t h))

  pub any_elim : {P : Type 0} (xs : List ℕ) → any p xs ≡ true → ((x : ℕ) → memb x xs ≡ true → p x ≡ true → P) → P
  unfolding any
  any_elim [] a k = absurd (false≢true a)
  any_elim (y ∷ ys) a k =
      or_cases (p y) (any p ys) a
      (λ h. k y (memb_head y ys) h)
      (λ t. any_elim ys t (λ x m h. k x (memb_tail x y ys m) h))

pub subset_elim : (xs ys : List ℕ) → subset xs ys ≡ true → (x : ℕ) → memb x xs ≡ true → memb x ys ≡ true
subset_elim xs ys s x m = all_elim (λ (k : ℕ). memb k ys) xs s x m

pub subset_intro : (xs ys : List ℕ) → ((x : ℕ) → memb x xs ≡ true → memb x ys ≡ true) → subset xs ys ≡ true
subset_intro xs ys h = all_intro (λ (k : ℕ). memb k ys) xs h

pub subset_nil : (ys : List ℕ) → subset [] ys ≡ true
unfolding all
subset_nil ys = refl

pub subset_none : (x : ℕ) (xs : List ℕ) → subset (x ∷ xs) [] ≡ false
unfolding all memb
subset_none x xs = refl

-- by places, and for a weaker test
module _ {A : Type 0} (p : A → Bool) where
  pub all_at : (d : A) (l : List A) → all p l ≡ true → (i : ℕ) → i < length l → p (get_or l i d) ≡ true
  unfolding all
  all_at d [] a i below = absurd (omega arith)
  all_at d (x ∷ xs) a zero below = and_left (p x) (all p xs) a
  all_at d (x ∷ xs) a (suc i) below = all_at d xs (and_right (p x) (all p xs) a) i (omega arith)

  pub all_make : (d : A) (l : List A) → ((i : ℕ) → i < length l → p (get_or l i d) ≡ true) → all p l ≡ true
  unfolding all
  all_make d [] at = refl
  all_make d (x ∷ xs) at = and_both (at 0 (omega arith)) (all_make d xs (λ i below. at (suc i) (omega arith)))

  pub all_weaken : (q : A → Bool) (xs : List A) → ((x : A) → p x ≡ true → q x ≡ true) → all p xs ≡ true → all q xs ≡ true
  unfolding all
  all_weaken q [] h a = refl
  all_weaken q (x ∷ xs) h a =
      and_both (h x (and_left (p x) (all p xs) a)) (all_weaken q xs h (and_right (p x) (all p xs) a))

  -- lists one after the other, and their parts
  pub all_append : (xs ys : List A) → all p xs ≡ true → all p ys ≡ true → all p (xs ++ ys) ≡ true
  unfolding all
  all_append [] ys hx hy = hy
  all_append (x ∷ xs) ys hx hy =
      and_both (and_left (p x) (all p xs) hx) (all_append xs ys (and_right (p x) (all p xs) hx) hy)

  pub all_front : (xs ys : List A) → all p (xs ++ ys) ≡ true → all p xs ≡ true
  unfolding all
  all_front [] ys a = refl
  all_front (x ∷ xs) ys a =
      and_both (and_left (p x) (all p (xs ++ ys)) a) (all_front xs ys (and_right (p x) (all p (xs ++ ys)) a))

  pub all_back : (xs ys : List A) → all p (xs ++ ys) ≡ true → all p ys ≡ true
  unfolding all
  all_back [] ys a = a
  all_back (x ∷ xs) ys a = all_back xs ys (and_right (p x) (all p (xs ++ ys)) a)

  pub all_take : (n : ℕ) (xs : List A) → all p xs ≡ true → all p (take n xs) ≡ true
  unfolding all
  all_take zero xs a = refl
  all_take (suc n) [] a = refl
  all_take (suc n) (x ∷ xs) a =
      and_both (and_left (p x) (all p xs) a) (all_take n xs (and_right (p x) (all p xs) a))

  -- where a test holds throughout a first part, the rest decides
  pub all_after : (n : ℕ) (l : List A) → all p (take n l) ≡ true → all p l ≡ all p (drop n l)
  unfolding all
  all_after zero l a = refl
  all_after (suc n) [] a = refl
  all_after (suc n) (x ∷ xs) a =
      rw (and_left (p x) (all p (take n xs)) a) (all_after n xs (and_right (p x) (all p (take n xs)) a))

  pub any_append : (xs ys : List A) → any p (xs ++ ys) ≡ (any p xs || any p ys)
  unfolding any
  any_append [] ys = refl
  any_append (x ∷ xs) ys = rw (any_append xs ys) (sym (or_assoc (p x) (any p xs) (any p ys)))

pub all_map : (f : ℕ → ℕ) (p : ℕ → Bool) (xs : List ℕ) → ((x : ℕ) → memb x xs ≡ true → p (f x) ≡ true) → all p (map f xs) ≡ true
unfolding all
all_map f p [] h = refl
all_map f p (x ∷ xs) h = and_both (h x (memb_head x xs)) (all_map f p xs (λ y m. h y (memb_tail y x xs m)))
