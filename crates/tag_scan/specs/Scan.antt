-- Inner: the loader's first pass, what its functions ask and promise. Its state is the counts of the records that were taken in,
-- and the index of their tags.
use Rattle.std.specs.Prelude.{ℕ, ◌≡◌, List, length, Result, Err, Ok}
use Rattle.sets.specs.Refusals.{unless}
use Rattle.tag_file.specs.declared.Loaded.{Loaded}
use Rattle.tag_file.specs.Records.{TagRecord, records, tag_table}
use Rattle.tag_file.specs.Repeats.{repeat_totals}
use Rattle.tag_file.specs.Loading.{file_fault, totals_of}
use Rattle.tag_index.specs.Index.{index_room, table_of, Sorted}
use Rattle.tag_scan.specs.totals.Totals.{Limited}
use Rattle.sets.specs.declared.Refusal.{Refusal}
use Rattle.tag_file.specs.declared.Repeats.{Repeats}
use Rattle.tag_index.specs.declared.TagIndex.{TagIndex}

-- ---- the state: records that were taken in

-- the lengths of the index's arrays
pub record Lengths (index : TagIndex) : Type 0 where
  pub heads_full : length index.heads ≡ index_room
  pub tails_full : length index.tails ≡ index_room
  pub ids_full : length index.ids ≡ index_room

-- the counts are those of the records, within the limits, and the index has their tags
pub record Taken (rs : List TagRecord) (total : Loaded) (index : TagIndex) : Type 0 where
  pub counts : total ≡ totals_of rs
  pub limited : Limited total
  pub sorted : Sorted index total.tag_count
  pub table : table_of index total.tag_count ≡ tag_table rs

-- ---- what the pass promises: the first fault of the file, or the counts and the repeats of its records; and then they are taken in
pub record Scanned (file : List ℕ) (index : TagIndex) (r : Result (Loaded × Repeats) Refusal) : Type 0 where
  pub answer : r ≡ unless Err (file_fault file) (Ok ((totals_of (records file)), (repeat_totals (records file))))
  pub taken : file_fault file ≡ Ok tt → Taken (records file) (totals_of (records file)) index
