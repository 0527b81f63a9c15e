-- Inner: the first pass over the second of two pooled files, what its functions ask and promise. It goes on from the counts and the
-- index of the first file's records, and leaves in the slot of each right set of the first file that it pools the length of the union.
use Rattle.std.specs.Prelude.{◌≡◌, ℕ, List, [], length, Err, Ok}
use Rattle.sets.specs.Limits.{max_sets}
use Rattle.sets.specs.Refusals.{unless}
use Rattle.tag_file.specs.declared.Loaded.{Loaded}
use Rattle.tag_file.specs.declared.Repeats.{Repeats}
use Rattle.tag_file.specs.Records.{records}
use Rattle.tag_file.specs.Repeats.{repeat_totals}
use Rattle.tag_file.specs.Loading.{totals_of}
use Rattle.pool_loader_spec.specs.Pooling.{pooled, pooled_repeats, second_fault, first_overlong}
use Rattle.tag_scan.specs.Scan.{Taken}
use Rattle.pool_scan.specs.right_slots.Slots.{AtSlots, Slottable, Slotted, slot_word}
use Rattle.pool_scan.specs.declared.counting.Second.{Second}
use Rattle.tag_index.specs.declared.TagIndex.{TagIndex}

-- the first file was taken in, its repeats are counted, and its right sets have slots
pub record SecondReady (first : List ℕ) (total : Loaded) (repeats : Repeats) (index : TagIndex) (used counts slots : List ℕ)
    : Type 0 where
  pub taken : Taken (records first) total index
  pub repeated : repeats ≡ repeat_totals (records first)
  pub slottable : Slottable first
  pub slotted : Slotted first used counts slots

-- the second file: its first fault, or the counts of the pooled records and the repeats of both files. Without a fault they are taken
-- in, the slots have the lengths of the pooled sets, and the first record whose pooled set is too long is known
pub record SecondScanned (first second : List ℕ) (index : TagIndex) (used slots : List ℕ) (r : Second) : Type 0 where
  pub answer : r.answer
      ≡ unless Err (second_fault (records first) (length first) second)
      (Ok ((totals_of (pooled (records first) (records second))), (pooled_repeats (records first) (records second))))
  pub long : second_fault (records first) (length first) second ≡ Ok tt
      → r.long ≡ first_overlong (records first) (length first) [] (records second)
  pub taken : second_fault (records first) (length first) second ≡ Ok tt
      → Taken (pooled (records first) (records second)) (totals_of (pooled (records first) (records second))) index
  pub size : length slots ≡ max_sets
  pub words : second_fault (records first) (length first) second ≡ Ok tt
      → AtSlots (slot_word (records second)) (records first) used slots
