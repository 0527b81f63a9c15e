-- Inner: what the functions of the writer ask for: sets that lie within their lists.
use Rattle.std.specs.Prelude.{◌≡◌, ℕ, ◌+◌, ◌*◌, ◌/◌, ◌≤◌, ◌<◌, List, length, get_or, None}
use Rattle.sets.specs.Collections.{first_bad}
use Rattle.tag_file.specs.Format.{tag_length}
use Rattle.tag_file.specs.Loading.{Lists}

-- the tag table has the tag of each item of a set
pub record ItemsFit (tags set : List ℕ) : Type 0 where
  pub known : (i : ℕ) → i < length set → tag_length * get_or set i 0 + tag_length ≤ length tags

-- a side has no fault: no bad set over the tags of the table, and as many numbers as sets
pub record GoodSide (tags numbers ends items : List ℕ) : Type 0 where
  pub good : first_bad (length tags / tag_length) ends items ≡ None
  pub numbered : length numbers ≡ length ends

-- neither side has a fault
pub record GoodLists (l : Lists) : Type 0 where
  pub left : GoodSide l.tags l.left_numbers l.left_ends l.left_items
  pub right : GoodSide l.tags l.right_numbers l.right_ends l.right_items
