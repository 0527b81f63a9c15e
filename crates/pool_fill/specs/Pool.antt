-- Inner: the second pass of a pooled load over the right sets, what it asks.
use Rattle.std.specs.Prelude.{ℕ, ◌<◌, ◌≤◌, ◌≡◌, true, length}
use mathlib.Core.List.{List, flatten}
use Rattle.lists.specs.Lists.{memb}
use Rattle.sets.specs.Limits.{max_items, max_sets, max_entries}
use Rattle.sets.specs.declared.Side.TheVariants.{Right}
use Rattle.tag_file.specs.Records.{total_length, records, of_side, all_tags, sets_of_side}
use Rattle.tag_file.specs.Loading.{numbers_of, ends_from}
use Rattle.pool_loader_spec.specs.Pooling.{pooled}
use Rattle.tag_index.specs.Index.{table_of, Sorted, Ranked}
use Rattle.pool_scan.specs.right_slots.Slots.{BlocksCounted, NumbersNoted, NumbersOnce, AtSlots, pooled_mark, slot_word}
use Rattle.tag_index.specs.declared.TagIndex.{TagIndex}

-- the index of two files' tags, the slots of the first file's right sets with the lengths of the unions, and room for the right
-- sets of both
pub record PoolFillReady (first second : List ℕ) (index : TagIndex) (n : ℕ) (ranks used counts slots numbers ends items : List ℕ)
    : Type 0 where
  pub sorted : Sorted index n
  pub ranked : Ranked n index.ids ranks
  pub small : n ≤ max_items
  pub held : (y : ℕ) → memb y (all_tags (pooled (records first) (records second))) ≡ true
      → memb y (table_of index n) ≡ true
  pub noted : NumbersNoted (records first) used
  pub counted : BlocksCounted used counts
  pub size : length slots ≡ max_sets
  pub words : AtSlots (slot_word (records second)) (records first) used slots
  pub once : NumbersOnce (records first)
  pub once_second : NumbersOnce (of_side Right (records second))
  pub short : total_length (records first) < pooled_mark
  pub few : length (flatten (sets_of_side Right (table_of index n) (pooled (records first) (records second)))) ≤ max_entries
  pub for_numbers : length (numbers_of Right (pooled (records first) (records second))) ≤ length numbers
  pub for_ends :
      length (ends_from 0 (sets_of_side Right (table_of index n) (pooled (records first) (records second)))) ≤ length ends
  pub for_items :
      length (flatten (sets_of_side Right (table_of index n) (pooled (records first) (records second)))) ≤ length items
