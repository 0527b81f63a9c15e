-- Counting: `count` over `++`, `map` and a list's parts, by tests that agree, exclude or imply each other, of one number in a
-- list without repeats; and of numbers below a bound and tallies, which a counting sort is made of.
use mathlib.Core.Path.{◌≡◌, refl, sym, ap, ap₂, ◌∙◌}
use mathlib.Core.List.{List, [], ◌∷◌, ◌++◌, map}
use mathlib.Core.Bool.{Bool, true, false, ◌||◌}
use Prim.Native.Nat.{ℕ, zero, suc, ◌+◌, ◌<◌, ◌≤◌}
use native.Mathlib.Nat.{add_assoc, zero-add}
use native.Mathlib.Numerals.{add-one}
use native.Mathlib.Omega.{arith}
use borrow.Author.Tests.{eqb-true, eqb-false, ne_eqb, ltb-true, ltb-false, lt-ltb, le-ltb}
use lib.Dec.{eqb, ltb}
use lib.ListN.{length, get_or, take, drop, set, take-append-drop, drop_of_length-le}
use lib.Seq.{take-suc, drop-cons, get_or-set_same, get_or-set_other}
use Rattle.lists.specs.Lists.{one, count, all, memb, distinct}
use Rattle.lists.proofs.Bools.{by_test, and_left, and_right}
use Rattle.lists.proofs.Membership.{memb_head, memb_tail}
use Rattle.lists.proofs.Distinct.{distinct_head, distinct_tail}

pub one_bound : (b : Bool) → one b ≤ 1
one_bound true = omega arith
one_bound false = omega arith

module _ {A : Type 0} (p : A → Bool) where
  pub count_append : (xs ys : List A) → count p (xs ++ ys) ≡ count p xs + count p ys
  unfolding count
  count_append [] ys = sym (zero-add (count p ys))
  count_append (x ∷ xs) ys =
      ap (λ (n : ℕ). one (p x) + n) (count_append xs ys) ∙ sym (add_assoc (one (p x)) (count p xs) (count p ys))

  pub count_bound : (l : List A) → count p l ≤ length l
  unfolding count
  count_bound [] = omega arith
  count_bound (x ∷ xs) = omega (arith, one_bound (p x), count_bound xs)

  pub count_none : (l : List A) → ((x : A) → p x ≡ false) → count p l ≡ 0
  unfolding count
  count_none [] none = refl
  count_none (x ∷ xs) none = rw (none x) (omega (arith, count_none xs none))

  -- one more element at the front of what is left, or at the end of what is done
  pub count-drop : (d : A) (l : List A) (i : ℕ) → i < length l
      → count p (drop i l) ≡ one (p (get_or l i d)) + count p (drop (i + 1) l)
  unfolding count
  count-drop d l i below = rw (drop-cons l i d below, add-one i)

  pub count-take : (d : A) (l : List A) (i : ℕ) → i < length l
      → count p (take (i + 1) l) ≡ count p (take i l) + one (p (get_or l i d))
  unfolding count
  count-take d l i below =
      rw (add-one i, take-suc l i d below, count_append (take i l) (get_or l i d ∷ [])) (omega arith)

  pub count-drop_end : (l : List A) (i : ℕ) → length l ≤ i → count p (drop i l) ≡ 0
  unfolding count
  count-drop_end l i past = rw (drop_of_length-le l {i = i} past)

  pub count-take_le : (l : List A) (i : ℕ) → count p (take i l) ≤ count p l
  count-take_le l i =
      omega (arith, count_append (take i l) (drop i l), ap (count p) (take-append-drop i l))

pub count-true : {A : Type 0} (l : List A) → count (λ x. true) l ≡ length l
unfolding count
count-true [] = refl
count-true (x ∷ xs) = omega (arith, count-true xs)

pub count_map : {A B : Type 0} (f : A → B) (p : B → Bool) (l : List A) → count p (map f l) ≡ count (λ x. p (f x)) l
unfolding count
count_map f p [] = refl
count_map f p (x ∷ xs) = ap (λ (n : ℕ). one (p (f x)) + n) (count_map f p xs)

either : (a b : Bool) → (a ≡ true → b ≡ false) → one (a || b) ≡ one a + one b
either true b apart = rw (apart refl)
either false b apart = sym (zero-add (one b))

one_le : (a b : Bool) → (a ≡ true → b ≡ true) → one a ≤ one b
one_le true b imp = rw (imp refl) (omega arith)
one_le false b imp = omega arith

module _ {A : Type 0} (p q : A → Bool) where
  -- two tests that agree everywhere
  pub count_same : (l : List A) → ((x : A) → p x ≡ q x) → count p l ≡ count q l
  unfolding count
  count_same [] same = refl
  count_same (x ∷ xs) same = rw (same x, count_same xs same)

  -- either of two tests that exclude each other
  pub count_or : (l : List A) → ((x : A) → p x ≡ true → q x ≡ false) → count (λ x. p x || q x) l ≡ count p l + count q l
  unfolding count
  count_or [] apart = refl
  count_or (x ∷ xs) apart = omega (arith, either (p x) (q x) (apart x), count_or xs apart)

  -- a weaker test counts at least as many, and more where some element passes it alone
  pub count_le : (l : List A) → ((x : A) → p x ≡ true → q x ≡ true) → count p l ≤ count q l
  unfolding count
  count_le [] imp = omega arith
  count_le (x ∷ xs) imp = omega (arith, one_le (p x) (q x) (imp x), count_le xs imp)

  pub count_less : (d : A) (l : List A) (i : ℕ) → i < length l → ((x : A) → p x ≡ true → q x ≡ true)
      → p (get_or l i d) ≡ false → q (get_or l i d) ≡ true → count p l < count q l
  unfolding count
  count_less d [] i below imp out inn = absurd (omega arith)
  count_less d (x ∷ xs) zero below imp out inn = rw (out, inn) (omega (arith, count_le xs imp))
  count_less d (x ∷ xs) (suc i) below imp out inn =
      omega (arith, one_le (p x) (q x) (imp x), count_less d xs i (omega arith) imp out inn)

-- two tests that agree where a third holds that holds throughout, and on the members
pub count_same_where : {A : Type 0} (good p q : A → Bool) (xs : List A) → all good xs ≡ true
    → ((x : A) → good x ≡ true → p x ≡ q x) → count p xs ≡ count q xs
unfolding count all
count_same_where good p q [] a h = refl
count_same_where good p q (x ∷ xs) a h =
    ap₂ (λ (b : Bool) (n : ℕ). one b + n) (h x (and_left (good x) (all good xs) a))
    (count_same_where good p q xs (and_right (good x) (all good xs) a) h)

pub count_agree : (p q : ℕ → Bool) (xs : List ℕ) → ((x : ℕ) → memb x xs ≡ true → p x ≡ q x) → count p xs ≡ count q xs
unfolding count
count_agree p q [] h = refl
count_agree p q (x ∷ xs) h =
    ap₂ (λ (b : Bool) (n : ℕ). one b + n) (h x (memb_head x xs)) (count_agree p q xs (λ y m. h y (memb_tail y x xs m)))

-- a number occurs once in a list without repeats, or not at all
pub count-distinct : (k : ℕ) (xs : List ℕ) → distinct xs ≡ true → count (eqb k) xs ≡ one (memb k xs)
unfolding count memb
count-distinct k [] d = refl
count-distinct k (x ∷ xs) d =
    let rest = count-distinct k xs (distinct_tail x xs d) in
    by_test (eqb k x)
    (λ e. rw (e, rest, eqb-true k x e, distinct_head x xs d))
    (λ e. rw e (omega (arith, rest)))

-- keys below a bound, one bound after the other
pub below_zero : (l : List ℕ) → count (λ x. ltb x 0) l ≡ 0
unfolding count
below_zero [] = refl
below_zero (x ∷ xs) = rw (le-ltb x 0 (omega arith), below_zero xs)

split_below : (k x : ℕ) → one (ltb x (suc k)) ≡ one (ltb x k) + one (eqb k x)
split_below k x =
    by_test (ltb x k)
    (λ e. rw (e, lt-ltb x (suc k) (omega (arith, ltb-true x k e)), ne_eqb k x (λ same. omega (arith, ltb-true x k e))))
    (λ e. by_test (eqb k x)
    (λ f. rw (e, f, lt-ltb x (suc k) (omega (arith, eqb-true k x f))))
    (λ f. rw (e, f, le-ltb x (suc k) (past (ltb-false x k e) (eqb-false k x f)))))
  where
    past : k ≤ x → (k ≡ x → ⊥) → suc k ≤ x
    past le ne = by_test (ltb k x) (λ h. ltb-true k x h) (λ h. absurd (ne (omega (arith, ltb-false k x h))))

pub below_suc : (k : ℕ) (l : List ℕ) → count (λ x. ltb x (suc k)) l ≡ count (λ x. ltb x k) l + count (eqb k) l
unfolding count
below_suc k [] = refl
below_suc k (x ∷ xs) = omega (arith, split_below k x, below_suc k xs)

-- a tally with x counted once more
pub tally_set : (l : List ℕ) (x k : ℕ) → x < length l → get_or (set l x (get_or l x 0 + 1)) k 0 ≡ get_or l k 0 + one (eqb k x)
tally_set l x k below =
    by_test (eqb k x)
    (λ e. let same : k ≡ x = eqb-true k x e in
    rw (e, same, get_or-set_same l x (get_or l x 0 + 1) 0 below))
    (λ e. rw (e, get_or-set_other l x k (get_or l x 0 + 1) 0 (eqb-false k x e)) (omega arith))
