-- Laws of `first_from`, the first element that passes a test, over elements of any kind: tests that agree, and what it finds: a place,
-- the first whose element passes, with all up to it compared, or that none does.
use Prim.Native.Nat.{ℕ, zero, suc, ◌+◌, ◌<◌, ◌≤◌}
use mathlib.Core.Path.{◌≡◌, refl, sym, ap, subst, ◌∙◌}
use mathlib.Core.List.{List, [], ◌∷◌}
use mathlib.Core.Bool.{Bool, true, false, cond}
use native.Mathlib.Nat.{add-zero, zero-add}
use native.Mathlib.Omega.{arith}
use lib.ListN.{length, get_or}
use Rattle.std.specs.Prelude.{None, Some}
use Rattle.std.proofs.lemmas.Option.{none-some, same_Some}
use Rattle.lists.proofs.Bools.{by_test}
use Rattle.first_search_spec.specs.declared.Search.{Search}
use Rattle.first_search_spec.specs.First.{found_at, none_of, first_from}

-- tests that agree make one search
pub first_agree : {A : Type 0} (p q : A → Bool) (k : ℕ) (xs : List A) → ((x : A) → p x ≡ q x) → first_from p k xs ≡ first_from q k xs
unfolding first_from
first_agree p q k [] same = refl
first_agree p q k (x ∷ xs) same = rw (same x, first_agree p q (suc k) xs same)

-- what holds where one was found from place k on: how far on it stands, that it passes, and that none before it does
pub record FoundFrom {A : Type 0} (test : A → Bool) (past : A) (k : ℕ) (xs : List A) : Type 0 where
  pub at : ℕ
  pub within : at < length xs
  pub is : first_from test k xs ≡ found_at (k + at)
  pub passes : test (get_or xs at past) ≡ true
  pub before : (i : ℕ) → i < at → test (get_or xs i past) ≡ false

-- what holds where none was found
pub record NoneFrom {A : Type 0} (test : A → Bool) (past : A) (k : ℕ) (xs : List A) : Type 0 where
  pub is : first_from test k xs ≡ none_of (k + length xs)
  pub none : (i : ℕ) → i < length xs → test (get_or xs i past) ≡ false

module _ {A : Type 0} (test : A → Bool) where
  module _ (past : A) where
    none_cons : (x : A) (xs : List A) (n : ℕ) → test x ≡ false → ((i : ℕ) → i < n → test (get_or xs i past) ≡ false)
        → (i : ℕ) → i < suc n → test (get_or (x ∷ xs) i past) ≡ false
    none_cons x xs n fails later zero below = fails
    none_cons x xs n fails later (suc i) below = later i (omega arith)

    pub found_from : (k : ℕ) (xs : List A) → {place : ℕ} → (first_from test k xs).place ≡ Some place → FoundFrom test past k xs
    unfolding first_from
    found_from k [] {place} e = absurd (none-some place e)
    found_from k (x ∷ xs) e = by_test (test x) here (λ fails. further fails (found_from (suc k) xs (rw fails at e)))
      where
        here : test x ≡ true → FoundFrom test past k (x ∷ xs)
        here passes =
            record {
              at = 0;
              within = omega arith;
              is = rw (passes, add-zero k);
              passes = passes;
              before = λ i below. absurd (omega arith);
            }

        further : test x ≡ false → FoundFrom test past (suc k) xs → FoundFrom test past k (x ∷ xs)
        further fails f =
            record {
              at = suc f.at;
              within = omega (arith, f.within);
              is = rw fails (f.is ∙ ap found_at (omega arith));
              passes = f.passes;
              before = none_cons x xs f.at fails f.before;
            }

    pub none_from : (k : ℕ) (xs : List A) → (first_from test k xs).place ≡ None → NoneFrom test past k xs
    unfolding first_from
    none_from k [] e = record { is = rw (add-zero k); none = λ i below. absurd (omega arith) }
    none_from k (x ∷ xs) e =
        by_test (test x) (λ passes. absurd (none-some k (sym (rw passes at e)))) (λ fails. further fails (none_from (suc k) xs (rw fails at e)))
      where
        further : test x ≡ false → NoneFrom test past (suc k) xs → NoneFrom test past k (x ∷ xs)
        further fails f =
            record {
              is = rw fails (f.is ∙ ap none_of (omega arith));
              none = none_cons x xs (length xs) fails f.none;
            }

    -- and it is found where so much holds
    pub first_is : (k : ℕ) (xs : List A) (at : ℕ) → at < length xs → test (get_or xs at past) ≡ true
        → ((i : ℕ) → i < at → test (get_or xs i past) ≡ false)
        → first_from test k xs ≡ found_at (k + at)
    unfolding first_from
    first_is k [] at within passes before = absurd (omega arith)
    first_is k (x ∷ xs) zero within passes before = rw (passes, add-zero k)
    first_is k (x ∷ xs) (suc at) within passes before =
        rw (before 0 (omega arith))
        (first_is (suc k) xs at (omega arith) passes (λ i below. before (suc i) (omega arith)) ∙ ap found_at (omega arith))

  -- no more are compared than there are
  pub first_bound : (k : ℕ) (xs : List A) → (first_from test k xs).compared ≤ k + length xs
  unfolding first_from
  first_bound k [] = omega arith
  first_bound k (x ∷ xs) = by_first (test x) (first_bound (suc k) xs)
    where
      by_first : (b : Bool) → (first_from test (suc k) xs).compared ≤ suc k + length xs
          → (cond b (found_at k) (first_from test (suc k) xs)).compared ≤ k + suc (length xs)
      by_first true e = omega arith
      by_first false e = omega arith

-- the same of a whole list: where one was found, and where none was
pub record FoundIn {A : Type 0} (test : A → Bool) (past : A) (xs : List A) (place : ℕ) (s : Search) : Type 0 where
  pub within : place < length xs
  pub passes : test (get_or xs place past) ≡ true
  pub before : (i : ℕ) → i < place → test (get_or xs i past) ≡ false
  pub compared : s.compared ≡ suc place

pub record NoneIn {A : Type 0} (test : A → Bool) (past : A) (xs : List A) (s : Search) : Type 0 where
  pub none : (i : ℕ) → i < length xs → test (get_or xs i past) ≡ false
  pub compared : s.compared ≡ length xs

module _ {A : Type 0} (test : A → Bool) (past : A) (xs : List A) where
  pub found_in : {place : ℕ} → (first_from test 0 xs).place ≡ Some place → FoundIn test past xs place (first_from test 0 xs)
  found_in {place} e =
      let f = found_from test past 0 xs e in
      let same = same_Some (0 + f.at) place (sym (ap (λ (s : Search). s.place) f.is) ∙ e) in
      subst (λ (n : ℕ). FoundIn test past xs n (first_from test 0 xs)) (sym (zero-add f.at) ∙ same)
      (rw (f.is, zero-add f.at) (record { within = f.within; passes = f.passes; before = f.before; compared = refl }))

  pub none_in : (first_from test 0 xs).place ≡ None → NoneIn test past xs (first_from test 0 xs)
  none_in e =
      let f = none_from test past 0 xs e in
      rw (f.is, zero-add (length xs)) (record { none = f.none; compared = refl })

  pub compared_bound : (first_from test 0 xs).compared ≤ length xs
  compared_bound = omega (arith, first_bound test 0 xs)
