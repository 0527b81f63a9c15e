-- The lowest digit 1 of a word, taken away by `word & (word - 1)`; and the digits that two words share or that only one has.
use Prim.Native.Nat.{ℕ, zero, suc, ◌+◌, ◌-◌, ◌*◌, ◌/◌, ◌%◌, ◌^◌, ◌<◌, ◌≤◌}
use mathlib.Core.Path.{◌≡◌, refl, sym, ap, ◌∙◌}
use mathlib.Core.List.{◌∷◌}
use mathlib.Core.Bool.{Bool, true, not, ◌&&◌}
use native.Mathlib.Nat.{pow-suc, add-zero}
use native.Mathlib.Omega.{arith}
use lib.Dec.{eqb}
use lib.Bits.{bit_and, bit_xor, and_step, and_shr, and_mod, xor_shr, xor_mod, and_zero_l, and_self}
use lib.Count.{count_trailing_zeros, under}
use Rattle.lists.specs.Lists.{onto, keep, range}
use Rattle.lists.proofs.Filtering.{keep-keep}
use Rattle.bit_sets.specs.BitSets.{bit_at, digits_from}
use Rattle.bit_sets.proofs.Digits.{digits_keep}

both_digits : (p q : ℕ) → p < 2 → q < 2 → eqb (bit_and p q) 1 ≡ (eqb p 1 && eqb q 1)
both_digits zero q h k = ap (λ (x : ℕ). eqb x 1) (and_zero_l q)
both_digits (suc zero) zero h k = refl
both_digits (suc zero) (suc zero) h k = refl
both_digits (suc zero) (suc (suc q)) h k = absurd (omega arith)
both_digits (suc (suc p)) q h k = absurd (omega arith)

pub bit_and_lem : (a b j : ℕ) → bit_at (bit_and a b) j ≡ (bit_at a j && bit_at b j)
bit_and_lem a b j =
    ap (λ (x : ℕ). eqb (x % 2) 1) (and_shr a b j) ∙ ap (λ (x : ℕ). eqb x 1) (and_mod (a / 2 ^ j) (b / 2 ^ j) 1)
    ∙ both_digits (a / 2 ^ j % 2) (b / 2 ^ j % 2) (omega arith) (omega arith)

-- the word without its lowest digit 1 has the other digits
pub digits_lowest : (d k base word : ℕ) → k ≤ d → 0 < word → word < 2 ^ k
    → digits_from k base word ≡ (base + count_trailing_zeros d word) ∷ digits_from k base (bit_and word (word - 1))
unfolding count_trailing_zeros digits_from
digits_lowest d zero base word fits some small = absurd (omega arith)
digits_lowest zero (suc k) base word fits some small = absurd (omega arith)
digits_lowest (suc d) (suc k) base word fits some small =
    by_lowest (word % 2) refl
    (λ even. digits_lowest d k (suc base) (word / 2) (omega arith) (omega arith) (omega (arith, pow-suc 2 k)))
  where
    by_lowest : (r : ℕ) → word % 2 ≡ r
        → (word % 2 ≡ 0
        → digits_from k (suc base) (word / 2) ≡ (suc base + count_trailing_zeros d (word / 2)) ∷ digits_from k (suc base) (bit_and (word / 2) ((word / 2) - 1)))
        → onto (eqb (word % 2) 1) base (digits_from k (suc base) (word / 2))
        ≡ (base + under r (count_trailing_zeros d (word / 2)))
        ∷ onto (eqb (bit_and word (word - 1) % 2) 1) base (digits_from k (suc base) (bit_and word (word - 1) / 2))
    by_lowest zero e rest =
        let low : (word - 1) % 2 ≡ 1 = omega arith in
        let high : (word - 1) / 2 ≡ (word / 2) - 1 = omega arith in
        let step = and_step word (word - 1) in
        let sum : bit_and word (word - 1) ≡ bit_and (word / 2) (word / 2 - 1) * 2 + 0 = rw (e, low, high) at step in
        let rem : bit_and word (word - 1) % 2 ≡ 0 = omega arith in
        let quo : bit_and word (word - 1) / 2 ≡ bit_and (word / 2) (word / 2 - 1) = omega arith in
        let at : base + suc (count_trailing_zeros d (word / 2)) ≡ suc base + count_trailing_zeros d (word / 2) = omega arith in
        rw (e, rem, quo, at) (rest e)
    by_lowest (suc r) e rest =
        let odd : word % 2 ≡ 1 = omega arith in
        let low : (word - 1) % 2 ≡ 0 = omega arith in
        let high : (word - 1) / 2 ≡ word / 2 = omega arith in
        let step = and_step word (word - 1) in
        let sum : bit_and word (word - 1) ≡ word / 2 * 2 + 0 = rw (odd, low, high, and_self (word / 2)) at step in
        let rem : bit_and word (word - 1) % 2 ≡ 0 = omega arith in
        let quo : bit_and word (word - 1) / 2 ≡ word / 2 = omega arith in
        rw (odd, rem, quo, add-zero base)

-- of the digits of a word those that pass a test, and those that don't
pub digits_and : (p : ℕ → Bool) (k base word shared : ℕ) → ((j : ℕ) → j < k → bit_at shared j ≡ (bit_at word j && p (base + j)))
    → digits_from k base shared ≡ keep p (digits_from k base word)
digits_and p k base word shared same =
    digits_keep (λ s. bit_at word (s - base) && p s) k base shared
    (λ j below.
    let here : base + j - base ≡ j = omega arith in
    ap (λ (i : ℕ). bit_at word i && p (base + j)) here ∙ sym (same j below))
    ∙ sym (keep-keep (λ s. bit_at word (s - base)) p (range base k))
    ∙ ap (keep p)
    (sym (digits_keep (λ s. bit_at word (s - base)) k base word (λ j below. ap (bit_at word) (omega arith))))

only_digit : (p q : ℕ) → p < 2 → q < 2 → (eqb q 1 ≡ true → eqb p 1 ≡ true)
    → eqb (bit_xor p q) 1 ≡ (eqb p 1 && not (eqb q 1))
only_digit zero zero h k within = refl
only_digit zero (suc zero) h k within = sym (within refl)
only_digit (suc zero) zero h k within = refl
only_digit (suc zero) (suc zero) h k within = refl
only_digit zero (suc (suc q)) h k within = absurd (omega arith)
only_digit (suc zero) (suc (suc q)) h k within = absurd (omega arith)
only_digit (suc (suc p)) q h k within = absurd (omega arith)

-- of two words, the first of which has all digits of the second, the digits that only the first has
pub bit_xor_lem : (a b j : ℕ) → (bit_at b j ≡ true → bit_at a j ≡ true) → bit_at (bit_xor a b) j ≡ (bit_at a j && not (bit_at b j))
bit_xor_lem a b j within =
    ap (λ (x : ℕ). eqb (x % 2) 1) (xor_shr a b j) ∙ ap (λ (x : ℕ). eqb x 1) (xor_mod (a / 2 ^ j) (b / 2 ^ j) 1)
    ∙ only_digit (a / 2 ^ j % 2) (b / 2 ^ j % 2) (omega arith) (omega arith) within
