-- The used numbers below a number, by blocks and words; the slots of used numbers are below the slot of the end, and differ.
use Rattle.std.proofs.Common.{◌≡◌, ℕ, zero, suc, ◌+◌, ◌-◌, ◌*◌, ◌/◌, ◌%◌, ◌^◌, ◌<◌, ◌≤◌, Bool, true, List, get_or, sym, refl, ap, ◌∙◌, mul-zero, mul-one, arith}
use Rattle.lists.specs.Lists.{one, count, range, upto}
use Rattle.lists.proofs.Counting.{count_append, count_bound}
use Rattle.lists.proofs.Ranges.{length-range, range_append}
use Rattle.bit_sets.specs.BitSets.{bit_at, member}
use Rattle.bit_sets.proofs.Counted.{count_word}
use Rattle.sets.specs.Limits.{max_sets, half_words}
use Rattle.tag_file.proofs.Tables.{three_ways}
use Rattle.tag_file.specs.Records.{TagRecord}
use Rattle.pool_scan.specs.right_slots.Slots.{block_length, number_slot, NumbersNoted}

-- a small number taken once or not at all
pub product_fits : {r m : ℕ} → r ≤ 64 → m < 2 → r * m < 2 ^ 64
product_fits {r} {m} few small = by_digit m small
  where
    by_digit : (d : ℕ) → d < 2 → r * d < 2 ^ 64
    by_digit zero h = omega (arith, mul-zero r)
    by_digit (suc zero) h = omega (arith, mul-one r)
    by_digit (suc (suc d)) h = absurd (omega arith)

module _ (used : List ℕ) where
  -- a range of numbers more
  pub slot_add : (a n : ℕ) → number_slot used (a + n) ≡ number_slot used a + count (member used) (range a n)
  unfolding number_slot
  slot_add a n =
      let from_zero : 0 + a ≡ a = omega arith in
      ap (count (member used)) (range_append 0 a n) ∙ count_append (member used) (upto a) (range (0 + a) n)
      ∙ ap (λ (k : ℕ). count (member used) (upto a) + count (member used) (range k n)) from_zero

  pub slot_start : number_slot used 0 ≡ 0
  unfolding number_slot count range
  slot_start = refl

  pub slot_rising : (a b : ℕ) → a ≤ b → number_slot used a ≤ number_slot used b
  slot_rising a b le =
      let all : a + (b - a) ≡ b = omega arith in
      omega (arith, slot_add a (b - a), ap (number_slot used) all)

  pub slot_bound : (a : ℕ) → number_slot used a ≤ a
  unfolding number_slot
  slot_bound a = omega (arith, count_bound (member used) (upto a), length-range 0 a)

  -- one more for a used number
  slot_next : (x : ℕ) → member used x ≡ true → number_slot used (x + 1) ≡ number_slot used x + 1
  unfolding count range
  slot_next x there = slot_add x 1 ∙ ap (λ (b : Bool). number_slot used x + (one b + 0)) there

  pub slot_less : (x y : ℕ) → member used x ≡ true → x < y → number_slot used x < number_slot used y
  slot_less x y there less = omega (arith, slot_next x there, slot_rising (x + 1) y (omega arith))

  pub slot_injective : (x y : ℕ) → member used x ≡ true → member used y ≡ true → number_slot used x ≡ number_slot used y → x ≡ y
  slot_injective x y at_x at_y same =
      three_ways x y (λ less. absurd (omega (arith, slot_less x y at_x less))) (λ e. e)
      (λ more. absurd (omega (arith, slot_less y x at_y more)))

  pub slot_below : {rs : List TagRecord} → NumbersNoted rs used → (x : ℕ) → x < half_words → member used x ≡ true
      → number_slot used x < max_sets
  slot_below noted x small there = omega (arith, noted.few, slot_less x half_words there small)

  -- ---- by words

  pub word_ones : (w n : ℕ) → n ≤ 64 → count (member used) (range (64 * w) n) ≡ count (bit_at (get_or used w 0)) (upto n)
  word_ones w n within = count_word used w n within

  -- the members of a block before a word
  pub block_before : (w r : ℕ) → r ≡ count (bit_at (get_or used (w - w % 2) 0)) (upto 64)
      → r * (w % 2) ≡ count (member used) (range (block_length * (w / 2)) (64 * (w % 2)))
  unfolding count range
  block_before w r is = by_half (w % 2) refl
    where
      by_half : (h : ℕ) → w % 2 ≡ h → r * h ≡ count (member used) (range (block_length * (w / 2)) (64 * h))
      by_half zero e = mul-zero r
      by_half (suc zero) e =
          let here : 64 * (w - w % 2) ≡ block_length * (w / 2) = omega arith in
          mul-one r ∙ is ∙ sym (word_ones (w - w % 2) 64 (omega arith))
          ∙ ap (λ (k : ℕ). count (member used) (range k 64)) here
      by_half (suc (suc h)) e = absurd (omega arith)

  -- a slot by the counts of its block, of the words of the block before it, and of its own word
  pub slot_parts : (n start before below : ℕ) → start ≡ number_slot used (block_length * (n / 128))
      → before ≡ count (member used) (range (block_length * (n / 64 / 2)) (64 * (n / 64 % 2)))
      → below ≡ count (bit_at (get_or used (n / 64) 0)) (upto (n % 64))
      → start + before + below ≡ number_slot used n
  slot_parts n start before below at-start is-before is_below =
      let w = n / 64 in
      let first : block_length * (w / 2) ≡ block_length * (n / 128) = omega arith in
      let mid : block_length * (w / 2) + 64 * (w % 2) ≡ 64 * w = omega arith in
      let end : 64 * w + n % 64 ≡ n = omega arith in
      omega (
        arith,
        at-start,
        is-before,
        is_below,
        ap (number_slot used) first,
        slot_add (block_length * (w / 2)) (64 * (w % 2)),
        ap (number_slot used) mid,
        slot_add (64 * w) (n % 64),
        ap (number_slot used) end,
        word_ones w (n % 64) (omega arith),
      )
