-- Inner: slots of the right sets of a file, found by their numbers. A bit set has the numbers that are used; the slot of a number is
-- how many of them are below it, and counts for blocks of numbers spare counting from the beginning.
use Rattle.std.specs.Prelude.{◌≡◌, ℕ, ◌+◌, ◌*◌, ◌/◌, ◌<◌, ◌≤◌, true, false, cond, List, ◌∷◌, ◌++◌, length, slice_index}
use Rattle.lists.specs.Lists.{count, memb, upto}
use Rattle.bit_sets.specs.BitSets.{member}
use Rattle.sets.specs.Limits.{max_sets, half_words}
use Rattle.sets.specs.declared.Side.TheVariants.{Right}
use Rattle.tag_file.specs.Records.{TagRecord, total_length, records, same_side, of_side, collapse}
use Rattle.tag_file.specs.Loading.{number_used, numbers_of}
use Rattle.pool_loader_spec.specs.Pooling.{united_with}

-- the words of the bit set: a member for each number
abbrev pub number_words : ℕ
number_words = half_words / 64

-- the numbers of a block, two words of them
abbrev pub block_length : ℕ
block_length = 128

abbrev pub blocks : ℕ
blocks = half_words / block_length

-- the slot of a number: how many used numbers are below it
unfoldable pub number_slot : List ℕ → ℕ → ℕ
number_slot used number = count (member used) (upto number)

-- the slots at which the blocks begin
pub record BlocksCounted (used counts : List ℕ) : Type 0 where
  pub wide : length used ≡ number_words
  pub size : length counts ≡ blocks
  pub at : (b : ℕ) → b < blocks → slice_index counts b ≡ number_slot used (block_length * b)

-- the numbers of the right sets among records, and nothing else, are members; there are no more of them than right sets may be
pub record NumbersNoted (rs : List TagRecord) (used : List ℕ) : Type 0 where
  pub wide : length used ≡ number_words
  pub has : (x : ℕ) → x < half_words → member used x ≡ memb x (numbers_of Right rs)
  pub few : number_slot used half_words ≤ max_sets

-- no record has the number of an earlier one of its side
abbrev pub NumbersOnce : List TagRecord → Type 0
NumbersOnce rs = (before : List TagRecord) (r : TagRecord) (after : List TagRecord) → rs ≡ before ++ (r ∷ after)
    → number_used before r ≡ false

-- the slot of each right set among records has a word, by the records before it and itself
abbrev pub AtSlots : (List TagRecord → TagRecord → ℕ) → List TagRecord → List ℕ → List ℕ → Type 0
AtSlots word rs used slots = (before : List TagRecord) (r : TagRecord) (after : List TagRecord) → rs ≡ before ++ (r ∷ after)
    → same_side Right r.side ≡ true → slice_index slots (number_slot used r.number) ≡ word before r

-- the slots of a file's right sets, each with its record's byte place
pub record Slotted (file used counts slots : List ℕ) : Type 0 where
  pub noted : NumbersNoted (records file) used
  pub counted : BlocksCounted used counts
  pub size : length slots ≡ max_sets
  pub places : AtSlots (λ before r. total_length before) (records file) used slots

-- the slots can be looked up, and this number has one
pub record HasSlot (used counts slots : List ℕ) (number : ℕ) : Type 0 where
  pub counted : BlocksCounted used counts
  pub within : number_slot used number < length slots

-- a file whose right sets can have slots: not too many, each number once, and places that fit
pub record Slottable (file : List ℕ) : Type 0 where
  pub few : length (of_side Right (records file)) ≤ max_sets
  pub once : NumbersOnce (records file)
  pub short : total_length (records file) < 2147483648

-- what marks a word as the length of a pooled set
abbrev pub pooled_mark : ℕ
pooled_mark = 2147483648

-- the word of a right set of the first file after records of the second: its byte place, or, once one of them was pooled with it, the
-- mark and the length of the union
abbrev pub slot_word : List TagRecord → List TagRecord → TagRecord → ℕ
slot_word seen before r =
    cond (number_used seen r) (pooled_mark + length (collapse (united_with (of_side Right seen) r).tags)) (total_length before)
