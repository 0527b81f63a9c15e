-- The marks of a record's tags, where there were none before.
use mathlib.Core.Path.{◌≡◌}
use mathlib.Core.List.{List}
use Prim.Native.Nat.{ℕ}
use native.Mathlib.Omega.{arith}
use lib.ListN.{length}
use Rattle.bit_sets.specs.BitSets.{members}
use Rattle.tag_file.specs.Reading.{tags_at}
use Rattle.tag_file.specs.Records.{items_of}
use Rattle.tag_index.specs.Index.{table_of}
use Rattle.tag_index.proofs.Ids.{sorted_size}
use Rattle.tag_loader.specs.record_items.Marks.{mark_words, Unmarked, MarkedMore, TagsKnown}
use Rattle.tag_loader.proofs.record_items.Marks.{more_fresh, marked_items}
use Rattle.tag_index.specs.declared.TagIndex.{TagIndex}

module _ {file : List ℕ} {index : TagIndex} {n : ℕ} {ranks : List ℕ} {start count : ℕ}
    (known : TagsKnown file index n ranks start count) where
  abbrev table : List ℕ
  table = table_of index n

  abbrev new : List ℕ
  new = tags_at count file start

  pub fresh_wide : {was is : List ℕ} → Unmarked was → MarkedMore table new was is → length is ≡ mark_words
  fresh_wide none more = (more_fresh none more).wide

  -- the members are the items of a record's tags
  pub fresh_items : {was is : List ℕ} → Unmarked was → MarkedMore table new was is → members is ≡ items_of table new
  fresh_items none more = marked_items (more_fresh none more) (omega (arith, sorted_size known.sorted, known.small))
