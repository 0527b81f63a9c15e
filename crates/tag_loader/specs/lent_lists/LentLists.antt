-- Inner: the lists that a load fills: whether they hold what was counted, and all zeros in them.
use Rattle.std.specs.Prelude.{ℕ, ◌*◌, ◌≡◌, List, Bool, ◌&&◌, leb, length, replicate}
use Rattle.tag_file.specs.declared.Loaded.{Loaded}
use Rattle.tag_file.specs.Format.{tag_length}
use Rattle.tag_file.specs.Loading.{Lists}
use Rattle.tag_loader.specs.declared.lent_lists.LoadRoom.{LoadRoom}
use Rattle.tag_loader.specs.declared.lent_lists.SideRoom.{SideRoom}

-- whether lists of these lengths hold the numbers, ends and items of a side
abbrev pub side_fits : ℕ → ℕ → SideRoom → Bool
side_fits sets entries room = leb sets room.numbers && (leb sets room.ends && leb entries room.items)

-- the lengths of the lists of a side
abbrev pub side_room : List ℕ → List ℕ → List ℕ → SideRoom
side_room numbers ends items = record { numbers = length numbers; ends = length ends; items = length items }

-- the lengths of lists
abbrev pub room_in : Lists → LoadRoom
room_in lent =
    record {
      tags = length lent.tags;
      left = side_room lent.left_numbers lent.left_ends lent.left_items;
      right = side_room lent.right_numbers lent.right_ends lent.right_items;
    }

-- whether lists of these lengths hold what was counted
abbrev pub has_room : Loaded → LoadRoom → Bool
has_room t room =
    leb (tag_length * t.tag_count) room.tags
    && (side_fits t.left_sets t.left_entries room.left && side_fits t.right_sets t.right_entries room.right)

-- the lists of a side are all zeros
pub record SideCleared (numbers ends items now-numbers now-ends now-items : List ℕ) : Type 0 where
  pub numbers_zero : now-numbers ≡ replicate (length numbers) 0
  pub ends_zero : now-ends ≡ replicate (length ends) 0
  pub items_zero : now-items ≡ replicate (length items) 0

-- the seven lists are all zeros
pub record AllCleared (before after : Lists) : Type 0 where
  pub tags_zero : after.tags ≡ replicate (length before.tags) 0
  pub left : SideCleared before.left_numbers before.left_ends before.left_items
      after.left_numbers after.left_ends after.left_items
  pub right : SideCleared before.right_numbers before.right_ends before.right_items
      after.right_numbers after.right_ends after.right_items
