-- Inner: the pooled load after its pass over the first file: what the pass over the second and the answer ask and promise, and what the
-- second passes ask.
use Rattle.std.specs.Prelude.{ℕ, ◌≡◌, List, true, length, replicate, Result, Ok}
use Rattle.sets.specs.Limits.{max_sets}
use Rattle.tag_file.specs.declared.Loaded.{Loaded}
use Rattle.tag_file.specs.declared.Repeats.{Repeats}
use Rattle.tag_file.specs.Records.{records, tag_table}
use Rattle.tag_file.specs.Loading.{Lists, file_fault, filled, room_for, totals_of}
use Rattle.pool_loader_spec.specs.Pooling.{pooled_records, second_fault, pooled_answer}
use Rattle.tag_scan.specs.Scan.{Scanned, Taken}
use Rattle.tag_loader.specs.declared.lent_lists.LoadRoom.{LoadRoom}
use Rattle.tag_loader.specs.lent_lists.LentLists.{room_in}
use Rattle.pool_scan.specs.right_slots.Slots.{number_words, blocks, NumbersNoted, BlocksCounted, AtSlots, slot_word}
use Rattle.sets.specs.declared.Refusal.{Refusal}
use Rattle.tag_index.specs.declared.TagIndex.{TagIndex}

-- the first file was scanned, no number is noted, and there is room for the slots
pub record JudgeReady (answer : Result (Loaded × Repeats) Refusal) (first : List ℕ) (index : TagIndex) (used counts slots : List ℕ) : Type 0 where
  pub scanned : Scanned first index answer
  pub unused : used ≡ replicate number_words 0
  pub counts_size : length counts ≡ blocks
  pub slots_size : length slots ≡ max_sets

-- both files were taken in without fault, the slots have the lengths of the pooled sets, and the lists are long enough
pub record PoolFillable (first second : List ℕ) (index : TagIndex) (n : ℕ) (used counts slots : List ℕ) (lent : Lists) : Type 0 where
  pub clean : file_fault first ≡ Ok tt
  pub clean_second : second_fault (records first) (length first) second ≡ Ok tt
  pub taken : Taken (pooled_records first second) (totals_of (pooled_records first second)) index
  pub count : n ≡ length (tag_table (pooled_records first second))
  pub room : room_for (filled (pooled_records first second)) lent ≡ true
  pub noted : NumbersNoted (records first) used
  pub counted : BlocksCounted used counts
  pub size : length slots ≡ max_sets
  pub words : AtSlots (slot_word (records second)) (records first) used slots

-- the answer is decided, and where it accepts, the lists can be filled
pub record PoolDecided (first second : List ℕ) (index : TagIndex) (used counts slots : List ℕ) (lent : Lists) (answer : Result (Loaded × Repeats) Refusal) : Type 0 where
  pub answered : answer ≡ pooled_answer first second lent
  pub fillable : (total : Loaded) (repeats : Repeats) → answer ≡ Ok (total, repeats)
      → PoolFillable first second index total.tag_count used counts slots lent

-- the answer is decided for all lists of these lengths
abbrev pub Judged : List ℕ → List ℕ → TagIndex → List ℕ → List ℕ → List ℕ → LoadRoom → Result (Loaded × Repeats) Refusal → Type 0
Judged first second index used counts slots room answer =
    (lent : Lists) → room ≡ room_in lent → PoolDecided first second index used counts slots lent answer
