-- Inner: what the functions of the listing ask and promise each other: room for what was loaded and for its text.
use Rattle.std.specs.Prelude.{ℕ, ◌*◌, ◌/◌, ◌≤◌, List, length, take}
use Rattle.sets.specs.Limits.{max_items}
use Rattle.inputs.specs.Input.{input_of}
use Rattle.tag_file.specs.Format.{tag_length}
use Rattle.tag_file.specs.declared.Loaded.{Loaded}
use Rattle.tag_file.specs.declared.Repeats.{Repeats}
use Rattle.join_text.specs.JoinText.{join_text, program_settings}
use Rattle.join_text.specs.Inner.{text_room}
use Rattle.listing_spec.specs.Listing.{max_file}

-- the bytes of the tag table, and the items of a side: the tags that the longest file can have
abbrev pub table_bytes : ℕ
table_bytes = tag_length * max_items

abbrev pub side_items : ℕ
side_items = max_file / tag_length

-- the counts lie within lists of numbers, ends, items and ranks, and there is room for the text
pub record Within (loaded : Loaded) (left_numbers left_ends left_items right_numbers right_ends right_items ranks text : List ℕ) : Type 0 where
  pub few_items : loaded.tag_count ≤ max_items
  pub left_numbered : loaded.left_sets ≤ length left_numbers
  pub left_ended : loaded.left_sets ≤ length left_ends
  pub left_filled : loaded.left_entries ≤ length left_items
  pub right_numbered : loaded.right_sets ≤ length right_numbers
  pub right_ended : loaded.right_sets ≤ length right_ends
  pub right_filled : loaded.right_entries ≤ length right_items
  pub ranked : loaded.tag_count ≤ length ranks
  pub room : text_room ≤ length text

-- the text of lists of which these counts are filled, with these repeats
abbrev pub cut_text : Loaded → Repeats → List ℕ → List ℕ → List ℕ → List ℕ → List ℕ → List ℕ → List ℕ
cut_text loaded repeats left_numbers left_ends left_items right_numbers right_ends right_items =
    let i =
    input_of loaded.tag_count (take loaded.left_sets left_ends) (take loaded.left_entries left_items)
    (take loaded.right_sets right_ends) (take loaded.right_entries right_items) in
    join_text repeats (take loaded.left_sets left_numbers) (take loaded.right_sets right_numbers) i (program_settings i)
