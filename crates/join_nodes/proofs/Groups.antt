-- Stable grouping by a key: it loses nothing, and its first element begins a whole group.
use Prim.Native.Nat.{ℕ, zero, suc, ◌+◌, ◌-◌, ◌≤◌, ◌<◌}
use mathlib.Core.Path.{◌≡◌, refl, sym, ap, ap₂, subst, ◌∙◌}
use mathlib.Core.List.{List, [], ◌∷◌, ◌++◌, nil≢cons, head-eq_of_cons-eq}
use mathlib.Core.Bool.{Bool, true, false, ◌&&◌, ◌||◌, and-or_distrib_right}
use native.Mathlib.Omega.{arith}
use borrow.Author.Tests.{eqb-true, eqb-false, le-leb, leb-true, lt-ltb, ltb-true}
use lib.Dec.{eqb, leb, ltb}
use Rattle.lists.specs.Lists.{count, keep, all}
use Rattle.lists.proofs.Bools.{by_test, and_left, and_right, and_both, same_test, refuted}
use Rattle.lists.proofs.Throughout.{all_append, all_weaken}
use Rattle.lists.proofs.Counting.{count_same, count_append, count_none, count_or}
use Rattle.lists.proofs.Filtering.{count-keep, all_kept}
use Rattle.counting_sort.specs.Groups.{groups_from}

-- what all have the first has
pub first_of : (p : ℕ → Bool) (x : ℕ) (xs : List ℕ) → all p (x ∷ xs) ≡ true → p x ≡ true
unfolding all
first_of p x xs a = and_left (p x) (all p xs) a

module _ (key : ℕ → ℕ) where
  -- whether a key lies among n keys from x on
  abbrev pub within : ℕ → ℕ → ℕ → Bool
  within x n a = leb x (key a) && ltb (key a) (x + n)

  pub within_zero : (x a : ℕ) → within x 0 a ≡ false
  within_zero x a =
      refuted (within x 0 a) (λ e.
      let low : x ≤ key a = leb-true x (key a) (and_left (leb x (key a)) (ltb (key a) (x + 0)) e) in
      let high : key a < x + 0 = ltb-true (key a) (x + 0) (and_right (leb x (key a)) (ltb (key a) (x + 0)) e) in
      omega arith)

  pub within_suc : (x n a : ℕ) → (eqb (key a) x || within (suc x) n a) ≡ within x (suc n) a
  within_suc x n a = by_test (eqb (key a) x) first (λ other. rw other (later other))
    where
      first : eqb (key a) x ≡ true → (eqb (key a) x || within (suc x) n a) ≡ within x (suc n) a
      first e =
          let same : key a ≡ x = eqb-true (key a) x e in
          rw e (sym (and_both (le-leb x (key a) (omega arith)) (lt-ltb (key a) (x + suc n) (omega arith))))

      later : eqb (key a) x ≡ false → within (suc x) n a ≡ within x (suc n) a
      later e =
          same_test (within (suc x) n a) (within x (suc n) a)
          (λ w.
          let low : suc x ≤ key a = leb-true (suc x) (key a) (and_left (leb (suc x) (key a)) (ltb (key a) (suc x + n)) w) in
          let high : key a < suc x + n =
          ltb-true (key a) (suc x + n)
          (and_right (leb (suc x) (key a)) (ltb (key a) (suc x + n)) w) in
          and_both (le-leb x (key a) (omega arith)) (lt-ltb (key a) (x + suc n) (omega arith)))
          (λ w.
          let low : x ≤ key a = leb-true x (key a) (and_left (leb x (key a)) (ltb (key a) (x + suc n)) w) in
          let high : key a < x + suc n = ltb-true (key a) (x + suc n) (and_right (leb x (key a)) (ltb (key a) (x + suc n)) w) in
          let apart : key a ≡ x → ⊥ = eqb-false (key a) x e in
          and_both (le-leb (suc x) (key a) (omega arith)) (lt-ltb (key a) (suc x + n) (omega arith)))

  pub apart : (x n a : ℕ) → eqb (key a) x ≡ true → within (suc x) n a ≡ false
  apart x n a e =
      let same : key a ≡ x = eqb-true (key a) x e in
      refuted (within (suc x) n a) (λ w.
      let low : suc x ≤ key a = leb-true (suc x) (key a) (and_left (leb (suc x) (key a)) (ltb (key a) (suc x + n)) w) in
      omega arith)

  -- the groups of the keys from x on hold what has such a key
  pub count_groups : (p : ℕ → Bool) (x n : ℕ) (l : List ℕ) → count p (groups_from key x n l) ≡ count (λ a. within x n a && p a) l
  unfolding groups_from count
  count_groups p x zero l = sym (count_none (λ a. within x 0 a && p a) l (λ a. rw (within_zero x a)))
  count_groups p x (suc n) l =
      count_append p (keep (λ a. eqb (key a) x) l) (groups_from key (suc x) n l)
      ∙ ap₂ (λ (a b : ℕ). a + b) (count-keep (λ a. eqb (key a) x) p l) (count_groups p (suc x) n l)
      ∙ sym (count_or (λ a. eqb (key a) x && p a) (λ a. within (suc x) n a && p a) l
      (λ a e. rw (apart x n a (and_left (eqb (key a) x) (p a) e))))
      ∙ count_same (λ a. eqb (key a) x && p a || within (suc x) n a && p a) (λ a. within x (suc n) a && p a) l
      (λ a. sym (and-or_distrib_right (eqb (key a) x) (within (suc x) n a) (p a))
      ∙ ap (λ (b : Bool). b && p a) (within_suc x n a))

  -- every element of the groups from x on has a key of x or more
  pub groups_above : (x n : ℕ) (l : List ℕ) → all (λ a. leb x (key a)) (groups_from key x n l) ≡ true
  unfolding groups_from all
  groups_above x zero l = refl
  groups_above x (suc n) l =
      all_append (λ a. leb x (key a)) (keep (λ a. eqb (key a) x) l) (groups_from key (suc x) n l)
      (all_weaken (λ a. eqb (key a) x) (λ a. leb x (key a)) (keep (λ a. eqb (key a) x) l)
      (λ a e. le-leb x (key a) (let same : key a ≡ x = eqb-true (key a) x e in omega arith))
      (all_kept (λ a. eqb (key a) x) l))
      (all_weaken (λ a. leb (suc x) (key a)) (λ a. leb x (key a)) (groups_from key (suc x) n l)
      (λ a e. le-leb x (key a) (let more : suc x ≤ key a = leb-true (suc x) (key a) e in omega arith))
      (groups_above (suc x) n l))

  -- the first element of the groups begins the whole group of its key, and the groups of greater keys follow
  pub record FirstGroup (x n : ℕ) (l : List ℕ) (a : ℕ) : Type 0 where
    pub low : x ≤ key a
    pub high : key a < x + n
    pub split : groups_from key x n l ≡ keep (λ b. eqb (key b) (key a)) l ++ groups_from key (suc (key a)) (x + n - suc (key a)) l

  pub groups_first : (x n : ℕ) (l : List ℕ) (a : ℕ) (rest : List ℕ) → groups_from key x n l ≡ a ∷ rest → FirstGroup x n l a
  unfolding groups_from
  groups_first x zero l a rest e = absurd (nil≢cons e)
  groups_first x (suc n) l a rest e = go (keep (λ b. eqb (key b) x) l) refl e (groups_first (suc x) n l a rest)
    where
      go : (g : List ℕ) → keep (λ b. eqb (key b) x) l ≡ g → g ++ groups_from key (suc x) n l ≡ a ∷ rest
          → (groups_from key (suc x) n l ≡ a ∷ rest → FirstGroup (suc x) n l a) → FirstGroup x (suc n) l a
      go [] none f later =
          let next = later f in
          let count : suc x + n - suc (key a) ≡ x + suc n - suc (key a) = omega arith in
          record {
            low = omega (arith, next.low);
            high = omega (arith, next.high);
            split =
                rw none (next.split
                ∙ ap (λ (m : ℕ). keep (λ b. eqb (key b) (key a)) l ++ groups_from key (suc (key a)) m l) count);
          }
      go (b ∷ bs) some f later =
          let here : b ≡ a = head-eq_of_cons-eq f in
          let kept : all (λ c. eqb (key c) x) (b ∷ bs) ≡ true =
          subst (λ (m : List ℕ). all (λ c. eqb (key c) x) m ≡ true) some (all_kept (λ c. eqb (key c) x) l) in
          let same : key a ≡ x =
          subst (λ (c : ℕ). key c ≡ x) here
          (eqb-true (key b) x (first_of (λ c. eqb (key c) x) b bs kept)) in
          let count : x + suc n - suc x ≡ n = omega arith in
          record {
            low = omega (arith, same);
            high = omega (arith, same);
            split = rw (same, count) refl;
          }
