-- The digits of a word: of half of it, of a power of two, of two words joined; and the places of its digits 1, with the zeros
-- before one of them skipped at once.
use Prim.Native.Nat.{ℕ, zero, suc, ◌+◌, ◌-◌, ◌/◌, ◌%◌, ◌^◌, ◌<◌, ◌≤◌}
use mathlib.Core.Path.{◌≡◌, refl, sym, ap, ap₂, ◌∙◌}
use mathlib.Core.List.{List, [], ◌∷◌}
use mathlib.Core.Bool.{Bool, false, ◌||◌}
use native.Mathlib.Nat.{div-one, zero-div, div-div-eq-div-mul, pow-succ', pow-suc, add-zero}
use native.Mathlib.Numerals.{add-one}
use native.Mathlib.Omega.{arith}
use lib.Dec.{eqb, eqb-zero-suc, eqb-suc-zero, eqb-suc-suc}
use lib.Bits.{bit_or, or_zero_l, or_shr, or_mod}
use lib.Count.{count_trailing_zeros, under}
use Rattle.lists.specs.Lists.{onto, keep, range}
use Rattle.bit_sets.specs.BitSets.{bit_at, digits_from}

-- the digits above the lowest are those of the half
halves : (word j : ℕ) → word / 2 ^ suc j ≡ word / 2 / 2 ^ j
halves word j = ap (λ (p : ℕ). word / p) (pow-succ' 2 j) ∙ sym (div-div-eq-div-mul word 2 (2 ^ j))

pub bit_half : (word j : ℕ) → bit_at word (suc j) ≡ bit_at (word / 2) j
bit_half word j = ap (λ (x : ℕ). eqb (x % 2) 1) (halves word j)

pub bit_lowest : (word : ℕ) → bit_at word 0 ≡ eqb (word % 2) 1
bit_lowest word = ap (λ (x : ℕ). eqb (x % 2) 1) (div-one word)

pub bit_of_zero : (j : ℕ) → bit_at 0 j ≡ false
bit_of_zero j = ap (λ (x : ℕ). eqb (x % 2) 1) (zero-div (2 ^ j))

-- a power of two has one digit
power_half : (i : ℕ) → 2 ^ suc i / 2 ≡ 2 ^ i
power_half i = omega (arith, pow-suc 2 i)

power_even : (i : ℕ) → 2 ^ suc i % 2 ≡ 0
power_even i = omega (arith, pow-suc 2 i)

pub bit_of_power : (i j : ℕ) → bit_at (2 ^ i) j ≡ eqb j i
bit_of_power zero zero = refl
bit_of_power zero (suc j) = bit_half 1 j ∙ bit_of_zero j ∙ sym (eqb-suc-zero j)
bit_of_power (suc i) zero = bit_lowest (2 ^ suc i) ∙ ap (λ (x : ℕ). eqb x 1) (power_even i) ∙ sym (eqb-zero-suc i)
bit_of_power (suc i) (suc j) =
    bit_half (2 ^ suc i) j ∙ ap (λ (x : ℕ). bit_at x j) (power_half i) ∙ bit_of_power i j ∙ sym (eqb-suc-suc j i)

-- two words joined have the digits of both
either_digit : (p q : ℕ) → p < 2 → q < 2 → eqb (bit_or p q) 1 ≡ (eqb p 1 || eqb q 1)
either_digit zero q h k = ap (λ (x : ℕ). eqb x 1) (or_zero_l q)
either_digit (suc zero) zero h k = refl
either_digit (suc zero) (suc zero) h k = refl
either_digit (suc zero) (suc (suc q)) h k = absurd (omega arith)
either_digit (suc (suc p)) q h k = absurd (omega arith)

pub bit_or_lem : (a b j : ℕ) → bit_at (bit_or a b) j ≡ (bit_at a j || bit_at b j)
bit_or_lem a b j =
    ap (λ (x : ℕ). eqb (x % 2) 1) (or_shr a b j) ∙ ap (λ (x : ℕ). eqb x 1) (or_mod (a / 2 ^ j) (b / 2 ^ j) 1)
    ∙ either_digit (a / 2 ^ j % 2) (b / 2 ^ j % 2) (omega arith) (omega arith)

-- the places of the digits 1 are those that pass the test
pub digits_keep : (p : ℕ → Bool) (k base word : ℕ) → ((j : ℕ) → j < k → p (base + j) ≡ bit_at word j)
    → digits_from k base word ≡ keep p (range base k)
unfolding digits_from keep range
digits_keep p zero base word same = refl
digits_keep p (suc k) base word same =
    let here : eqb (word % 2) 1 ≡ p base =
    sym (bit_lowest word) ∙ sym (same 0 (omega arith)) ∙ ap p (add-zero base)
    in
    ap₂ (λ (b : Bool) (l : List ℕ). onto b base l) here
    (digits_keep p k (suc base) (word / 2)
    (λ j below. let next : suc base + j ≡ base + suc j = omega arith in ap p next ∙ same (suc j) (omega arith) ∙ bit_half word j))

pub digits_none : (k base : ℕ) → digits_from k base 0 ≡ []
unfolding digits_from
digits_none zero base = refl
digits_none (suc k) base = digits_none k (suc base)

-- the first digit 1 of a word of k digits: t zeros stand below it, and the digits above it are left
pub record First (k base word t : ℕ) : Type 0 where
  pub within : t < k
  pub digits : digits_from k base word ≡ (base + t) ∷ digits_from (k - (t + 1)) (base + t + 1) (word / 2 ^ t / 2)
  pub small : word / 2 ^ t / 2 < 2 ^ (k - (t + 1))

pub first_digit : (d k base word : ℕ) → k ≤ d → 0 < word → word < 2 ^ k → First k base word (count_trailing_zeros d word)
unfolding count_trailing_zeros digits_from
first_digit d zero base word fits some small = absurd (omega arith)
first_digit zero (suc k) base word fits some small = absurd (omega arith)
first_digit (suc d) (suc k) base word fits some small =
    by_lowest (word % 2) refl
    (λ even. first_digit d k (suc base) (word / 2) (omega arith) (omega arith) (omega (arith, pow-suc 2 k)))
  where
    by_lowest : (r : ℕ) → word % 2 ≡ r → (word % 2 ≡ 0 → First k (suc base) (word / 2) (count_trailing_zeros d (word / 2)))
        → First (suc k) base word (under r (count_trailing_zeros d (word / 2)))
    by_lowest zero e rest =
        let t = count_trailing_zeros d (word / 2) in
        let f = rest e in
        let left : suc k - (suc t + 1) ≡ k - (t + 1) = omega arith in
        let at : base + suc t ≡ suc base + t = omega arith in
        record {
          within = omega (arith, f.within);
          digits = rw (e, left, at, halves word t) f.digits;
          small = rw (left, halves word t) f.small;
        }
    by_lowest (suc r) e rest =
        let odd : word % 2 ≡ 1 = omega arith in
        let left : suc k - (0 + 1) ≡ k = omega arith in
        record {
          within = omega arith;
          digits = rw (odd, left, div-one word, add-zero base, add-one base);
          small = rw (left, div-one word) (omega (arith, pow-suc 2 k));
        }
