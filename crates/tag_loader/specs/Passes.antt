-- Inner: the loader's second pass, what it asks and promises.
use Rattle.std.specs.Prelude.{ℕ, ◌≡◌, List, true, length}
use Rattle.sets.specs.Lent.{filled_over}
use Rattle.tag_file.specs.Records.{TagRecord, records, tag_table}
use Rattle.tag_file.specs.Loading.{Lists, totals_of, room_for, filled}
use Rattle.tag_scan.specs.Scan.{Taken}
use Rattle.tag_index.specs.declared.TagIndex.{TagIndex}

-- the seven lists hold what records give, and are as before beyond
pub record AllFilled (rs : List TagRecord) (before after : Lists) : Type 0 where
  pub tags_filled : after.tags ≡ filled_over (filled rs).tags before.tags
  pub left_numbers_filled : after.left_numbers ≡ filled_over (filled rs).left_numbers before.left_numbers
  pub left_ends_filled : after.left_ends ≡ filled_over (filled rs).left_ends before.left_ends
  pub left_items_filled : after.left_items ≡ filled_over (filled rs).left_items before.left_items
  pub right_numbers_filled : after.right_numbers ≡ filled_over (filled rs).right_numbers before.right_numbers
  pub right_ends_filled : after.right_ends ≡ filled_over (filled rs).right_ends before.right_ends
  pub right_items_filled : after.right_items ≡ filled_over (filled rs).right_items before.right_items

-- the n tags and the counts of a file's records were taken in, and the lists are long enough
pub record Fillable (file : List ℕ) (index : TagIndex) (n : ℕ) (lent : Lists) : Type 0 where
  pub taken : Taken (records file) (totals_of (records file)) index
  pub count : n ≡ length (tag_table (records file))
  pub room : room_for (filled (records file)) lent ≡ true
