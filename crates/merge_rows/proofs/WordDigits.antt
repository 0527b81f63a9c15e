-- The digits of two words as one of 64 bits: one of them set, and both cleared.
use Prim.Native.Nat.{ℕ, ◌+◌, ◌-◌, ◌*◌, ◌/◌, ◌%◌, ◌^◌, ◌<◌, ◌≤◌}
use mathlib.Core.Path.{◌≡◌, refl, sym, ap, ap₂, ◌∙◌}
use mathlib.Core.List.{List}
use mathlib.Core.Bool.{Bool, false, ◌&&◌, ◌||◌, or_comm}
use native.Mathlib.Nat.{one-mul}
use native.Mathlib.Omega.{arith}
use borrow.Author.Tests.{eqb-true, eqb-false, eq-eqb, ltb-true, ltb-false}
use lib.Bits.{bit_or, or_block, or_zero_r}
use lib.Dec.{eqb, ltb, lit<}
use lib.ListN.{length, get_or, set, length-set}
use lib.Pow.{pow-lt, pow-add, pow_pos, shl_exact}
use lib.Seq.{get_or-set_same, get_or-set_other}
use Rattle.lists.proofs.Bools.{by_test}
use Rattle.counting_sort.specs.Sorting.{WordsCleared}
use Rattle.bit_sets.specs.BitSets.{bit_at}
use Rattle.bit_sets.proofs.Digits.{bit_or_lem, bit_of_power, bit_of_zero}
use Rattle.sets.specs.Limits.{full_words}
use Rattle.signatures.specs.Signing.{double}
use Rattle.merge_rows.specs.Words.{digit, DigitRoom, DigitSet}

module _ (w : List ℕ) (i r : ℕ) (room : i + 2 ≤ length w) (below : r < 32) (small : (k : ℕ) → get_or w k 0 < 4294967296) where
  abbrev lo : ℕ
  lo = get_or w i 0

  abbrev hi : ℕ
  hi = get_or w (i + 1) 0

  power_small : 2 ^ r < 2 ^ 32
  power_small = pow-lt below

  -- a power of two in the low word, and in the high one
  low_stored : double (set w i (bit_or lo (2 ^ r))) i ≡ bit_or (double w i) (2 ^ r)
  low_stored =
      let v = bit_or lo (2 ^ r) in
      let first : get_or (set w i v) i 0 ≡ v = get_or-set_same w i v 0 (omega arith) in
      let second : get_or (set w i v) (i + 1) 0 ≡ hi = get_or-set_other w i (i + 1) v 0 (λ e. omega arith) in
      let turned : v + full_words * hi ≡ hi * 2 ^ 32 + v = omega arith in
      let whole : hi * 2 ^ 32 + lo ≡ double w i = omega arith in
      let power : 0 * 2 ^ 32 + 2 ^ r ≡ 2 ^ r = omega arith in
      ap₂ (λ (a b : ℕ). a + full_words * b) first second ∙ turned ∙ ap (λ (h : ℕ). h * 2 ^ 32 + v) (sym (or_zero_r hi))
      ∙ sym (or_block 32 hi 0 lo (2 ^ r) (small i) power_small) ∙ ap₂ (λ (a b : ℕ). bit_or a b) whole power

  high_stored : double (set w (i + 1) (bit_or hi (2 ^ r))) i ≡ bit_or (double w i) (2 ^ (32 + r))
  high_stored =
      let v = bit_or hi (2 ^ r) in
      let first : get_or (set w (i + 1) v) i 0 ≡ lo = get_or-set_other w (i + 1) i v 0 (λ e. omega arith) in
      let second : get_or (set w (i + 1) v) (i + 1) 0 ≡ v = get_or-set_same w (i + 1) v 0 (omega arith) in
      let turned : lo + full_words * v ≡ v * 2 ^ 32 + lo = omega arith in
      let whole : hi * 2 ^ 32 + lo ≡ double w i = omega arith in
      let power : 2 ^ r * 2 ^ 32 + 0 ≡ 2 ^ (32 + r) = omega (arith, pow-add 2 32 r) in
      ap₂ (λ (a b : ℕ). a + full_words * b) first second ∙ turned ∙ ap (λ (l : ℕ). v * 2 ^ 32 + l) (sym (or_zero_r lo))
      ∙ sym (or_block 32 hi (2 ^ r) lo 0 (small i) (pow_pos 32)) ∙ ap₂ (λ (a b : ℕ). bit_or a b) whole power

module _ (w : List ℕ) (c j : ℕ) (room : DigitRoom c j w) (small : (i : ℕ) → get_or w i 0 < 4294967296) where
  abbrev stored : List ℕ
  stored = set w (2 * c + j / 32) (bit_or (get_or w (2 * c + j / 32) 0) (1 * 2 ^ (j % 32) % 4294967296))

  exact : 1 * 2 ^ (j % 32) % 4294967296 ≡ 2 ^ (j % 32)
  exact = shl_exact 1 (j % 32) 32 (lit< tt) (omega arith) ∙ one-mul (2 ^ (j % 32))

  joined : double stored (2 * c) ≡ bit_or (double w (2 * c)) (2 ^ j)
  joined =
      by_test (ltb j 32)
      (λ t.
      let below = ltb-true j 32 t in
      let at : 2 * c + j / 32 ≡ 2 * c = omega arith in
      let place : j % 32 ≡ j = omega arith in
      rw (exact, at, place) (low_stored w (2 * c) j room.within below small))
      (λ f.
      let above = ltb-false j 32 f in
      let here = room.below in
      let at : 2 * c + j / 32 ≡ 2 * c + 1 = omega arith in
      let power : 2 ^ (32 + j % 32) ≡ 2 ^ j = ap (λ (k : ℕ). 2 ^ k) (omega arith) in
      rw (exact, at, ← power) (high_stored w (2 * c) (j % 32) room.within (omega arith) small))

  -- one digit more
  pub digit_set : DigitSet c j w stored
  digit_set =
      record {
        size = length-set w _ _;
        holds = λ d i.
            by_test (eqb d c) (λ t. same_word d i (eqb-true d c t)) (λ f. other_word d i f);
      }
    where
      same_word : (d i : ℕ) → d ≡ c → digit stored d i ≡ ((eqb d c && eqb i j) || digit w d i)
      same_word d i e =
          rw (e, eq-eqb c c refl)
          (ap (λ (x : ℕ). bit_at x i) joined ∙ bit_or_lem (double w (2 * c)) (2 ^ j) i
          ∙ ap (λ (b : Bool). digit w c i || b) (bit_of_power j i) ∙ or_comm (digit w c i) (eqb i j))

      other_word : (d i : ℕ) → eqb d c ≡ false → digit stored d i ≡ ((eqb d c && eqb i j) || digit w d i)
      other_word d i f =
          let ne = eqb-false d c f in
          let at = 2 * c + j / 32 in
          let here = room.below in
          rw (f, get_or-set_other w at (2 * d) _ 0 (λ e. ne (omega arith)), get_or-set_other w at (2 * d + 1) _ 0 (λ e. ne (omega arith)))

-- cleared words
pub double_cleared : {lo m : ℕ} {w w' : List ℕ} → WordsCleared lo m w w' → (i : ℕ) → lo ≤ i → i + 2 ≤ lo + m → double w' i ≡ 0
double_cleared {lo} {m} {w} {w'} cleared i low high =
    let first : lo + (i - lo) ≡ i = omega arith in
    let second : lo + (i + 1 - lo) ≡ i + 1 = omega arith in
    ap₂ (λ (a b : ℕ). a + full_words * b) (rw first at (cleared.zero (i - lo) (omega arith)))
    (rw second at (cleared.zero (i + 1 - lo) (omega arith)))

pub digit_cleared : {lo m : ℕ} {w w' : List ℕ} → WordsCleared lo m w w' → (c j : ℕ) → lo ≤ 2 * c → 2 * c + 2 ≤ lo + m
    → digit w' c j ≡ false
digit_cleared cleared c j low high = ap (λ (x : ℕ). bit_at x j) (double_cleared cleared (2 * c) low high) ∙ bit_of_zero j
