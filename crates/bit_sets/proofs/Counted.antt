-- Members counted: the digits 1 of a word, and the members of a range that lies in one word; and one more member.
use Prim.Native.Nat.{ℕ, zero, suc, ◌+◌, ◌-◌, ◌*◌, ◌/◌, ◌%◌, ◌^◌, ◌<◌, ◌≤◌}
use mathlib.Core.Path.{◌≡◌, refl, sym, ap, ap₂, ◌∙◌}
use mathlib.Core.List.{List, [], ◌∷◌}
use mathlib.Core.Bool.{Bool, true, false, ◌||◌}
use native.Mathlib.Nat.{pow-suc, mod-one, add-zero, one-mul, mod-eq_of_lt}
use native.Mathlib.Omega.{arith}
use lib.Dec.{eqb, lit<}
use lib.Arith.{mod-mul}
use lib.Bits.{bit_and, and_mask}
use lib.Count.{ones, ones_step, ones-le}
use lib.ListN.{get_or}
use lib.Pow.{pow_pos, shl_exact}
use Rattle.lists.specs.Lists.{one, count, memb, range, upto}
use Rattle.lists.proofs.Bools.{eqb_comm}
use Rattle.lists.proofs.Counting.{count_same, count_bound, count-distinct, one_bound}
use Rattle.lists.proofs.Ranges.{length-range}
use Rattle.lists.proofs.Rising.{rising-range, rising-distinct}
use Rattle.bit_sets.specs.BitSets.{bit_at, member, Inserted}
use Rattle.bit_sets.proofs.Digits.{bit_half, bit_lowest}

-- tests that agree place by place on two ranges count the same
pub count_shift : (p q : ℕ → Bool) (from at n : ℕ) → ((j : ℕ) → j < n → p (from + j) ≡ q (at + j))
    → count p (range from n) ≡ count q (range at n)
unfolding count range
count_shift p q from at zero same = refl
count_shift p q from at (suc n) same =
    let here : p from ≡ q at = sym (ap p (add-zero from)) ∙ same 0 (omega arith) ∙ ap q (add-zero at) in
    ap₂ (λ (b : Bool) (k : ℕ). one b + k) here
    (count_shift p q (suc from) (suc at) n
    (λ j below.
    let left : suc from + j ≡ from + suc j = omega arith in
    let right : at + suc j ≡ suc at + j = omega arith in
    ap p left ∙ same (suc j) (omega arith) ∙ ap q right))

digit_one : (word : ℕ) → word % 2 ≡ one (eqb (word % 2) 1)
digit_one word = by_digit (word % 2) (omega arith)
  where
    by_digit : (d : ℕ) → d < 2 → d ≡ one (eqb d 1)
    by_digit zero h = refl
    by_digit (suc zero) h = refl
    by_digit (suc (suc d)) h = absurd (omega arith)

ones-double : (high digit : ℕ) → digit < 2 → ones (high * 2 + digit) ≡ digit + ones high
ones-double high digit small =
    let low : (high * 2 + digit) % 2 ≡ digit = omega arith in
    let rest : (high * 2 + digit) / 2 ≡ high = omega arith in
    ones_step (high * 2 + digit) ∙ ap₂ (λ (a b : ℕ). a + ones b) low rest

-- the digits 1 among the k lowest
pub ones-count : (k word : ℕ) → ones (word % 2 ^ k) ≡ count (bit_at word) (upto k)
unfolding ones count range
ones-count zero word = ap ones (mod-one word)
ones-count (suc k) word =
    let two_pos : 0 < 2 = omega arith in
    ap (λ (m : ℕ). ones (word % m)) (pow-suc 2 k) ∙ ap ones (mod-mul word (pow_pos k) two_pos)
    ∙ ones-double (word / 2 % 2 ^ k) (word % 2) (omega arith)
    ∙ ap₂ (λ (a b : ℕ). a + b) (digit_one word ∙ ap one (sym (bit_lowest word)))
    (ones-count k (word / 2) ∙ count_shift (bit_at (word / 2)) (bit_at word) 0 1 k (λ j below. later j))
  where
    later : (j : ℕ) → bit_at (word / 2) (0 + j) ≡ bit_at word (1 + j)
    later j =
        let here : 0 + j ≡ j = omega arith in
        let next : suc j ≡ 1 + j = omega arith in
        ap (bit_at (word / 2)) here ∙ sym (bit_half word j) ∙ ap (bit_at word) next

pub ones-whole : (word : ℕ) → word < 2 ^ 64 → ones word ≡ count (bit_at word) (upto 64)
ones-whole word small = ap ones (sym (mod-eq_of_lt small)) ∙ ones-count 64 word

pub ones_bound : (word k : ℕ) {r : ℕ} → r ≡ count (bit_at word) (upto k) → r ≤ k
ones_bound word k is = omega (arith, is, count_bound (bit_at word) (upto k), length-range 0 k)

pub ones_fit : (word : ℕ) → word < 2 ^ 64 → ones word < 2 ^ 64
ones_fit word small = omega (arith, ones-le 64 word small)

-- the low digits under a mask
module _ (word k : ℕ) (small : k < 64) where
  abbrev power : ℕ
  power = 1 * 2 ^ k % 18446744073709551616

  exact : power ≡ 2 ^ k
  exact = shl_exact 1 k 64 (lit< tt) (omega arith) ∙ one-mul (2 ^ k)

  pub mask_positive : 1 ≤ power
  mask_positive = omega (arith, exact, pow_pos k)

  pub ones_masked : ones (bit_and word (power - 1)) ≡ count (bit_at word) (upto k)
  ones_masked = ap (λ (p : ℕ). ones (bit_and word (p - 1))) exact ∙ ap ones (and_mask word k) ∙ ones-count k word

  pub masked_fit : ones (bit_and word (power - 1)) < 2 ^ 64
  masked_fit = omega (arith, ones_bound word k ones_masked)

-- the members of the first n numbers of a word
pub count_word : (words : List ℕ) (w n : ℕ) → n ≤ 64
    → count (member words) (range (64 * w) n) ≡ count (bit_at (get_or words w 0)) (upto n)
count_word words w n within =
    count_shift (member words) (bit_at (get_or words w 0)) (64 * w) 0 n
    (λ j below.
    let word : (64 * w + j) / 64 ≡ w = omega arith in
    let place : (64 * w + j) % 64 ≡ 0 + j = omega arith in
    ap₂ (λ (a b : ℕ). bit_at (get_or words a 0) b) word place)

-- one more member is at most one more
count_either : (p q : ℕ → Bool) (l : List ℕ) → count (λ x. p x || q x) l ≤ count p l + count q l
unfolding count
count_either p q [] = omega arith
count_either p q (x ∷ xs) = omega (arith, either (p x) (q x), count_either p q xs)
  where
    either : (a b : Bool) → one (a || b) ≤ one a + one b
    either true b = omega arith
    either false b = omega arith

pub count_inserted : {was is : List ℕ} {i : ℕ} → Inserted was i is → (n : ℕ)
    → count (member is) (upto n) ≤ count (member was) (upto n) + 1
count_inserted {was} {is} {i} put n =
    let same = count_same (member is) (λ j. eqb j i || member was j) (upto n) put.holds in
    let turned = count_same (λ j. eqb j i) (eqb i) (upto n) (λ j. eqb_comm j i) in
    let once = count-distinct i (upto n) (rising-distinct (upto n) (rising-range 0 n)) in
    omega (arith, same, count_either (λ j. eqb j i) (member was) (upto n), turned, once, one_bound (memb i (upto n)))
