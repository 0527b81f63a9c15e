use Prim.Native.Nat.{ℕ, ◌+◌, ◌-◌, ◌<◌, ◌≤◌}
use mathlib.Core.Path.{◌≡◌, sym, ap, subst, ◌∙◌}
use mathlib.Core.List.{List, ◌∷◌}
use mathlib.Core.Bool.{true, ◌&&◌}
use native.Mathlib.Nat.{zero-add}
use native.Mathlib.Omega.{arith}
use borrow.Author.Tests.{ltb-true, ltb-false}
use lib.Bits.{bit_and, and_le_l}
use lib.Count.{count_trailing_zeros}
use lib.Dec.{ltb}
use lib.ListN.{length, get_or, drop, length-drop}
use lib.Seq.{get_or-drop, drop-drop}
use Rattle.lists.specs.Lists.{count, keep, memb, upto}
use Rattle.lists.proofs.Bools.{by_test, and_left, and_right}
use Rattle.lists.proofs.Filtering.{memb-keep, count-keep}
use Rattle.lists.proofs.Membership.{memb_at}
use Rattle.lists.proofs.Ranges.{memb-upto, count-upto}
use Rattle.lists.proofs.Rising.{rising-keep, rising-range}
use Rattle.bit_sets.specs.BitSets.{bit_at, digits_from}
use Rattle.bit_sets.proofs.Digits.{digits_keep, digits_none}
use Rattle.bit_sets.proofs.Lowest.{digits_lowest}
use Rattle.merge_rows.specs.FirstRanks.{NthDigit}
use Rattle.merge_rows.proofs.ShortWriting.{length_digits}
use Rattle.merge_rows.proofs.RankCounts.{rising_index}
use Rattle.merge_rows.proofs.paths.nth_digit.Invariants.{DigitsLeft}
use Rattle.merge_rows.proofs.paths.nth_digit.Goals as goal

module _ {word rest i : ℕ} (d : DigitsLeft word rest i) (enough : i ≤ length (digits_from 64 0 word)) where
  rest_some : 0 < rest
  rest_some =
      by_test (ltb 0 rest) (ltb-true 0 rest)
      (λ f.
      let zero : rest ≡ 0 = omega (arith, ltb-false 0 rest f) in
      let none = ap (λ (r : ℕ). length (digits_from 64 0 r)) zero ∙ ap length (digits_none 64 0) in
      absurd (omega (arith, d.some, enough, none, ap length d.digits, length-drop (i - 1) (digits_from 64 0 word))))

  lowest : digits_from 64 0 rest ≡ (0 + count_trailing_zeros 64 rest) ∷ digits_from 64 0 (bit_and rest (rest - 1))
  lowest = digits_lowest 64 64 0 rest (omega arith) rest_some d.small

  digits_step : DigitsLeft word (bit_and rest (rest - 1)) (i + 1)
  digits_step =
      let next : i - 1 + 1 ≡ i + 1 - 1 = omega (arith, d.some) in
      record {
        some = omega arith;
        small = omega (arith, and_le_l rest (rest - 1), d.small);
        digits =
            ap (drop 1) (sym lowest) ∙ ap (drop 1) d.digits ∙ drop-drop 1 (i - 1) (digits_from 64 0 word)
            ∙ ap (λ (k : ℕ). drop k (digits_from 64 0 word)) next;
      }

  -- the digit at its place
  place : get_or (digits_from 64 0 word) (i - 1) 0 ≡ count_trailing_zeros 64 rest
  place =
      let here : i - 1 ≡ i - 1 + 0 = omega arith in
      ap (λ (k : ℕ). get_or (digits_from 64 0 word) k 0) here
      ∙ sym (get_or-drop (i - 1) (digits_from 64 0 word) 0 0) ∙ ap (λ (l : List ℕ). get_or l 0 0) (sym d.digits ∙ lowest)
      ∙ zero-add (count_trailing_zeros 64 rest)

-- the number at a place of the digits
digit_at : (word i r : ℕ) → i < length (digits_from 64 0 word) → get_or (digits_from 64 0 word) i 0 ≡ r → NthDigit word (i + 1) r
digit_at word i r below here =
    record {
      below = small;
      is = and_right (memb r (upto 64)) (bit_at word r) both;
      before =
          omega (
            arith,
            rising_index kept (rising-keep (bit_at word) (upto 64) (rising-range 0 64)) i (omega (arith, ap length same)),
            ap (λ (x : ℕ). count (λ y. ltb y x) kept) at,
            count-keep (bit_at word) (λ y. ltb y r) (upto 64),
            count-upto (bit_at word) r 64 (omega (arith, small)),
          );
    }
  where
    kept : List ℕ
    kept = keep (bit_at word) (upto 64)

    same : digits_from 64 0 word ≡ kept
    same = digits_keep (bit_at word) 64 0 word (λ j low. ap (bit_at word) (zero-add j))

    at : get_or kept i 0 ≡ r
    at = ap (λ (l : List ℕ). get_or l i 0) (sym same) ∙ here

    both : (memb r (upto 64) && bit_at word r) ≡ true
    both =
        sym (memb-keep (bit_at word) (upto 64) r) ∙ ap (λ (x : ℕ). memb x kept) (sym at)
        ∙ memb_at kept i 0 (omega (arith, ap length same))

    small : r < 64
    small = ltb-true r 64 (sym (memb-upto 64 r) ∙ and_left (memb r (upto 64)) (bit_at word r) both)

digits_end : {word rest i : ℕ} → DigitsLeft word rest i → i ≤ length (digits_from 64 0 word) → NthDigit word i (count_trailing_zeros 64 rest)
digits_end {word} {rest} {i} d enough =
    let whole : i - 1 + 1 ≡ i = omega (arith, d.some) in
    subst (λ (m : ℕ). NthDigit word m (count_trailing_zeros 64 rest)) whole
    (digit_at word (i - 1) (count_trailing_zeros 64 rest) (omega (arith, d.some, enough)) (place d enough))

-- a word has as many digits as ones
enough : (word n : ℕ) → n ≤ count (bit_at word) (upto 64) → n ≤ length (digits_from 64 0 word)
enough word n h = omega (arith, h, length_digits 0 word)

pub overflow_sub-rest : goal.overflow_sub-rest
overflow_sub-rest c = rest_some c.loop.invariant (omega (arith, enough c.args.word c.args.n c.requires.enough))

pub loop-preserved : goal.loop-preserved
loop-preserved c = digits_step c.loop.invariant (omega (arith, enough c.args.word c.args.n c.requires.enough))

pub returns : goal.returns
returns c =
    let a = c.args in
    let loop = c.loop in
    let whole : loop.counter ≡ a.n = omega (arith, c.requires.some) in
    subst (λ (m : ℕ). NthDigit a.word m (count_trailing_zeros 64 loop.rest)) whole
    (digits_end loop.invariant (omega (arith, whole, enough a.word a.n c.requires.enough)))
