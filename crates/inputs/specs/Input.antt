-- What goes into an operation over both collections, as it is lent. Document 01, "Sets and settings".
use Rattle.std.specs.Prelude.{ℕ, List}
use Rattle.sets.specs.Collections.{Collection, lent_sets, sets_in}
use Rattle.inputs.specs.declared.Input as declared

-- the count of items and both collections
pub record Input : Type 0 where
  pub T : ℕ
  pub left : Collection
  pub right : Collection

-- the lists as they are lent, by their names
abbrev pub input_of : ℕ → List ℕ → List ℕ → List ℕ → List ℕ → Input
input_of T left_ends left_items right_ends right_items =
    record {
      T = T;
      left = record { ends = left_ends; items = left_items };
      right = record { ends = right_ends; items = right_items };
    }

-- the input that is lent
abbrev pub lent_input : declared.Input → Input
lent_input input = record { T = input.t; left = lent_sets input.left; right = lent_sets input.right }

-- the sets of each side, by place
abbrev pub left_sets : Input → List (List ℕ)
left_sets i = sets_in i.left

abbrev pub right_sets : Input → List (List ℕ)
right_sets i = sets_in i.right
