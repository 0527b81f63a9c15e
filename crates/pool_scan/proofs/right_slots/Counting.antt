-- The blocks being counted: the invariant of the loop, with its start and step.
use Rattle.std.proofs.Common.{◌≡◌, ℕ, ◌+◌, ◌*◌, ◌<◌, ◌≤◌, eqb, List, length, get_or, set, sym, ap, ◌∙◌, arith, length-set, get_or-set_other, get_or-set_same, eqb-true}
use borrow.Author.Tests.{eqb-false}
use Rattle.lists.specs.Lists.{count, range, upto}
use Rattle.lists.proofs.Bools.{by_test}
use Rattle.lists.proofs.Counting.{count_bound}
use Rattle.lists.proofs.Ranges.{length-range}
use Rattle.bit_sets.specs.BitSets.{bit_at, member}
use Rattle.sets.specs.Limits.{max_sets, half_words}
use Rattle.pool_scan.specs.right_slots.Slots.{block_length, blocks, number_slot}
use Rattle.pool_scan.proofs.right_slots.Counted.{slot_add, slot_start, slot_rising, word_ones}

-- a block's members, word by word
pub block_words : (used : List ℕ) (b first second : ℕ)
    → first ≡ count (bit_at (get_or used (2 * b) 0)) (upto 64) → second ≡ count (bit_at (get_or used (2 * b + 1) 0)) (upto 64)
    → first + second ≡ count (member used) (range (block_length * b) block_length)
block_words used b first second is-first is-second =
    let low : 64 * (2 * b) ≡ block_length * b = omega arith in
    let mid : block_length * b + 64 ≡ 64 * (2 * b + 1) = omega arith in
    let end : block_length * b + 64 + 64 ≡ block_length * b + block_length = omega arith in
    omega (
      arith,
      is-first,
      is-second,
      word_ones used (2 * b) 64 (omega arith),
      word_ones used (2 * b + 1) 64 (omega arith),
      ap (λ (k : ℕ). count (member used) (range k 64)) low,
      ap (λ (k : ℕ). count (member used) (range k 64)) mid,
      slot_add used (block_length * b) 64,
      slot_add used (block_length * b + 64) 64,
      ap (number_slot used) end,
      slot_add used (block_length * b) block_length,
    )

pub block_few : (used : List ℕ) (b r : ℕ) → r ≡ count (member used) (range (block_length * b) block_length) → r ≤ block_length
block_few used b r is =
    omega (arith, is, count_bound (member used) (range (block_length * b) block_length), length-range (block_length * b) block_length)

-- the blocks before b have their counts, and total is that of b
pub record Counting (used counts : List ℕ) (total b : ℕ) : Type 0 where
  pub size : length counts ≡ blocks
  pub within : b ≤ blocks
  pub sum : total ≡ number_slot used (block_length * b)
  pub done : (j : ℕ) → j < b → get_or counts j 0 ≡ number_slot used (block_length * j)

pub counting_start : (used counts : List ℕ) → length counts ≡ blocks → Counting used counts 0 0
counting_start used counts long =
    record { size = long; within = omega arith; sum = sym (slot_start used); done = λ j h. absurd (omega arith) }

module _ {used counts : List ℕ} {total b : ℕ} (w : Counting used counts total b) where
  pub counting_bound : number_slot used half_words ≤ max_sets → total ≤ max_sets
  counting_bound few = omega (arith, w.sum, few, slot_rising used (block_length * b) half_words (omega (arith, w.within)))

  pub counting_step : (r : ℕ) → b < blocks → r ≡ count (member used) (range (block_length * b) block_length)
      → Counting used (set counts b total) (total + r) (b + 1)
  counting_step r below is =
      let next : block_length * b + block_length ≡ block_length * (b + 1) = omega arith in
      record {
        size = length-set counts b total ∙ w.size;
        within = omega arith;
        sum = omega (arith, w.sum, is, slot_add used (block_length * b) block_length, ap (number_slot used) next);
        done = λ j h. by_test (eqb j b) (λ t. this j (eqb-true j b t)) (λ t. other j h (eqb-false j b t));
      }
    where
      this : (j : ℕ) → j ≡ b → get_or (set counts b total) j 0 ≡ number_slot used (block_length * j)
      this j e =
          ap (λ (k : ℕ). get_or (set counts b total) k 0) e
          ∙ get_or-set_same counts b total 0 (omega (arith, w.size)) ∙ w.sum
          ∙ ap (λ (k : ℕ). number_slot used (block_length * k)) (sym e)

      other : (j : ℕ) → j < b + 1 → (j ≡ b → ⊥) → get_or (set counts b total) j 0 ≡ number_slot used (block_length * j)
      other j h ne = get_or-set_other counts b j total 0 ne ∙ w.done j (omega arith)
