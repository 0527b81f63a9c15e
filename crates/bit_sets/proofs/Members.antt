-- The members of a set: after one more is put in, and word by word.
use Prim.Native.Nat.{ℕ, ◌+◌, ◌-◌, ◌*◌, ◌/◌, ◌%◌, ◌^◌, ◌<◌, ◌≤◌}
use mathlib.Core.Path.{◌≡◌, refl, sym, ap, ap₂, ◌∙◌}
use mathlib.Core.List.{List, [], ◌++◌, append-nil}
use mathlib.Core.Bool.{Bool, false, ◌||◌, or_comm}
use native.Mathlib.Nat.{one-mul}
use native.Mathlib.Omega.{arith}
use borrow.Author.Tests.{eqb-true, eqb-false, eq-eqb, ne_eqb}
use lib.Dec.{eqb, lit<}
use lib.Bits.{bit_or}
use lib.ListN.{length, get_or, set, replicate, length-set}
use lib.Pow.{shl_exact}
use lib.Seq.{get_or-set_same, get_or-set_other}
use Rattle.lists.specs.Lists.{keep, range, upto}
use Rattle.lists.proofs.Bools.{by_test, same_test}
use Rattle.lists.proofs.Filtering.{keep_append, keep_agree, keep_none}
use Rattle.lists.proofs.Ranges.{range_append, range_lower, range_upper, upto-split}
use Rattle.lists.proofs.Zeros.{get_d_zeros}
use Rattle.bit_sets.specs.BitSets.{bit_at, member, members, digits_from, Inserted}
use Rattle.bit_sets.proofs.Digits.{bit_of_zero, bit_of_power, bit_or_lem, digits_keep}

module _ (words : List ℕ) (i : ℕ) (within : i < 64 * length words) where
  -- the word with one more digit
  abbrev with_digit : ℕ
  with_digit = bit_or (get_or words (i / 64) 0) (1 * 2 ^ (i % 64) % 18446744073709551616)

  digit_of : (j : ℕ) → bit_at with_digit j ≡ (eqb j (i % 64) || bit_at (get_or words (i / 64) 0) j)
  digit_of j =
      let exact : 1 * 2 ^ (i % 64) % 18446744073709551616 ≡ 2 ^ (i % 64) =
      shl_exact 1 (i % 64) 64 (lit< tt) (omega arith) ∙ one-mul (2 ^ (i % 64))
      in
      bit_or_lem (get_or words (i / 64) 0) (1 * 2 ^ (i % 64) % 18446744073709551616) j
      ∙ ap (λ (x : ℕ). bit_at (get_or words (i / 64) 0) j || bit_at x j) exact
      ∙ ap (λ (b : Bool). bit_at (get_or words (i / 64) 0) j || b) (bit_of_power (i % 64) j)
      ∙ or_comm (bit_at (get_or words (i / 64) 0) j) (eqb j (i % 64))

  pub inserted : Inserted words i (set words (i / 64) with_digit)
  inserted =
      record {
        size = length-set words (i / 64) with_digit;
        holds =
            λ j.
            by_test (eqb (j / 64) (i / 64)) (λ t. same_word j (eqb-true (j / 64) (i / 64) t))
            (λ f. other_word j (eqb-false (j / 64) (i / 64) f));
      }
    where
      same_word : (j : ℕ) → j / 64 ≡ i / 64 → member (set words (i / 64) with_digit) j ≡ (eqb j i || member words j)
      same_word j e =
          let place : eqb (j % 64) (i % 64) ≡ eqb j i =
          same_test (eqb (j % 64) (i % 64)) (eqb j i)
          (λ t. eq-eqb j i (omega (arith, eqb-true (j % 64) (i % 64) t)))
          (λ t. eq-eqb (j % 64) (i % 64) (ap (λ (k : ℕ). k % 64) (eqb-true j i t)))
          in
          rw (e, get_or-set_same words (i / 64) with_digit 0 (omega arith), ← place) (digit_of (j % 64))

      other_word : (j : ℕ) → (j / 64 ≡ i / 64 → ⊥) → member (set words (i / 64) with_digit) j ≡ (eqb j i || member words j)
      other_word j ne =
          rw (get_or-set_other words (i / 64) (j / 64) with_digit 0 ne, ne_eqb j i (λ e. ne (ap (λ (k : ℕ). k / 64) e)))

-- the members from word w on
pub members_from : List ℕ → ℕ → List ℕ
members_from words w = keep (member words) (range (64 * w) (64 * (length words - w)))

module _ (words : List ℕ) where
  pub members_start : members words ≡ members_from words 0
  unfolding members members_from
  members_start =
      let all : length words ≡ length words - 0 = omega arith in
      ap (λ (n : ℕ). keep (member words) (range 0 (64 * n))) all

  pub members_next : (w : ℕ) → w < length words
      → members_from words w ≡ digits_from 64 (64 * w) (get_or words w 0) ++ members_from words (w + 1)
  unfolding members_from
  members_next w below =
      let more : 64 * (length words - w) ≡ 64 + 64 * (length words - (w + 1)) = omega arith in
      let next : 64 * w + 64 ≡ 64 * (w + 1) = omega arith in
      ap (λ (m : ℕ). keep (member words) (range (64 * w) m)) more
      ∙ ap (keep (member words)) (range_append (64 * w) 64 (64 * (length words - (w + 1))))
      ∙ keep_append (member words) (range (64 * w) 64) (range (64 * w + 64) (64 * (length words - (w + 1))))
      ∙ ap₂ (λ (a b : List ℕ). a ++ b) (sym (digits_keep (member words) 64 (64 * w) (get_or words w 0) digit))
      (ap (λ (m : ℕ). keep (member words) (range m (64 * (length words - (w + 1))))) next)
    where
      digit : (j : ℕ) → j < 64 → member words (64 * w + j) ≡ bit_at (get_or words w 0) j
      digit j h =
          let word : (64 * w + j) / 64 ≡ w = omega arith in
          let place : (64 * w + j) % 64 ≡ j = omega arith in
          ap₂ (λ (a b : ℕ). bit_at (get_or words a 0) b) word place

  pub members_end : (w : ℕ) → length words ≤ w → members_from words w ≡ []
  unfolding members_from keep range
  members_end w past =
      let none : 64 * (length words - w) ≡ 0 = omega arith in
      ap (λ (m : ℕ). keep (member words) (range (64 * w) m)) none

-- an empty set
pub no_member : (n j : ℕ) → member (replicate n 0) j ≡ false
no_member n j = ap (λ (word : ℕ). bit_at word (j % 64)) (get_d_zeros n (j / 64)) ∙ bit_of_zero (j % 64)

-- where a test tells the members below n, and there are none from n on, the members are those that pass
pub members_pass : (words : List ℕ) (p : ℕ → Bool) (n : ℕ) → n ≤ 64 * length words
    → ((j : ℕ) → j < n → member words j ≡ p j) → ((j : ℕ) → n ≤ j → member words j ≡ false)
    → members words ≡ keep p (upto n)
unfolding members
members_pass words p n within same none =
    let last = range n (64 * length words - n) in
    ap (keep (member words)) (upto-split n (64 * length words) within) ∙ keep_append (member words) (upto n) last
    ∙ ap₂ (λ (a b : List ℕ). a ++ b)
    (keep_agree (member words) p (upto n) (λ j m. same j (omega (arith, range_upper 0 n j m))))
    (keep_agree (member words) (λ j. false) last (λ j m. none j (range_lower n (64 * length words - n) j m))
    ∙ keep_none (λ j. false) last (λ j. refl))
    ∙ append-nil (keep p (upto n))
