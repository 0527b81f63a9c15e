-- Inner: the tags of one right set of the second of two pooled files, taken in as a union: what is asked and promised.
use Rattle.std.specs.Prelude.{◌≡◌, ℕ, ◌+◌, ◌<◌, ◌≤◌, true, false, List, [], ◌++◌, length, is_some, unwrap_or, slice_index, slice_set}
use Rattle.lists.specs.Lists.{memb}
use Rattle.bit_sets.specs.BitSets.{member}
use Rattle.sets.specs.Limits.{max_items, max_sets, max_set_length, half_words}
use Rattle.sets.specs.declared.Side.{Side}
use Rattle.tag_file.specs.declared.ReadAnswer.TheVariants.{Record}
use Rattle.tag_file.specs.Reading.{read_at, past_tags, tags_at}
use Rattle.tag_file.specs.Records.{insert_all, collapse}
use Rattle.tag_index.specs.Index.{table_of, Sorted}
use Rattle.pool_scan.specs.right_slots.Slots.{number_words, number_slot, BlocksCounted, pooled_mark}
use Rattle.pool_scan.specs.declared.union.United.{United}
use Rattle.tag_index.specs.declared.TagIndex.{TagIndex}

-- a whole record is at a place, with so many tags from a place on
pub record WholeRecordAt (file : List ℕ) (at count start : ℕ) : Type 0 where
  pub side : Side
  pub number : ℕ
  pub next : ℕ
  pub read : read_at file at ≡ Record side number count start next

-- there is one, and the index has its tags
pub record KnownRecordAt (file : List ℕ) (at : ℕ) (table : List ℕ) : Type 0 where
  pub count : ℕ
  pub start : ℕ
  pub there : WholeRecordAt file at count start
  pub known : (y : ℕ) → memb y (tags_at count file start) ≡ true → memb y table ≡ true

-- the index has n tags, with room for those of a record
pub record IndexReady (index : TagIndex) (n : ℕ) : Type 0 where
  pub sorted : Sorted index n
  pub small : n ≤ max_items

-- a record's tags are within its file, and not too many
pub record TagsInside (file : List ℕ) (start count : ℕ) : Type 0 where
  pub inside : past_tags start count ≤ length file
  pub few : count ≤ max_set_length

-- a record of the second file whose tags are to be taken in: if its number is in the first file, its slot has the place of the record
-- there
pub record UniteReady (first second : List ℕ) (number start count n : ℕ) (index : TagIndex) (used counts slots : List ℕ) : Type 0 where
  pub index_ready : IndexReady index n
  pub tags_inside : TagsInside second start count
  pub wide : length used ≡ number_words
  pub small : number < half_words
  pub counted : BlocksCounted used counts
  pub size : length slots ≡ max_sets
  pub slot : member used number ≡ true → number_slot used number < max_sets
  pub there : member used number ≡ true → KnownRecordAt first (slice_index slots (number_slot used number)) (table_of index n)

-- the tags of a set were taken in: the `new` ones, behind those `own` of the first file, none where it has no such set
pub record TakenIn (own new : List ℕ) (index : TagIndex) (n : ℕ) (r : United)
    (now-index : TagIndex) : Type 0 where
  pub sorted : Sorted now-index r.tag_count
  pub table : table_of now-index r.tag_count ≡ insert_all (table_of index n) new
  pub own_counted : unwrap_or r.first 0 ≡ length (collapse own)
  pub new_counted : r.second ≡ length (collapse new)
  pub all_counted : r.all ≡ length (collapse (own ++ new))
  pub less : unwrap_or r.first 0 ≤ r.all
  pub few : r.all ≤ max_set_length + max_set_length

-- by themselves
pub record AddedAlone (new : List ℕ) (index : TagIndex) (n : ℕ) (r : United) (now-index : TagIndex)
    : Type 0 where
  pub taken : TakenIn [] new index n r now-index
  pub told : is_some r.first ≡ false

-- behind those of the record at a place of the first file
pub record AddedBoth (first : List ℕ) (at : ℕ) (new : List ℕ) (index : TagIndex) (n : ℕ) (r : United)
    (now-index : TagIndex) : Type 0 where
  pub taken : (count start : ℕ) → WholeRecordAt first at count start
      → TakenIn (tags_at count first start) new index n r now-index
  pub told : is_some r.first ≡ true
  pub few : r.all ≤ max_set_length + max_set_length

-- those of a record of the second file: pooled with the record of its slot, or alone
pub record Taking (first second : List ℕ) (number start count n : ℕ) (index : TagIndex) (used slots : List ℕ) (r : United)
    (now-index : TagIndex) (now-slots : List ℕ) : Type 0 where
  pub told : is_some r.first ≡ member used number
  pub alone : member used number ≡ false
      → TakenIn [] (tags_at count second start) index n r now-index
  pub kept : member used number ≡ false → now-slots ≡ slots
  pub met : member used number ≡ true → (c p : ℕ) → WholeRecordAt first (slice_index slots (number_slot used number)) c p
      → TakenIn (tags_at c first p) (tags_at count second start) index n r now-index
  pub noted : member used number ≡ true → now-slots ≡ slice_set slots (number_slot used number) (pooled_mark + r.all)
