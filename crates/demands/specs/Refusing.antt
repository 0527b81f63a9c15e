-- What a row of the refusal table says of a call. Document 01, "When no list is made".
use Rattle.std.specs.Prelude.{ℕ, ◌≡◌, List, [], ◌∷◌, map, Bool, cond, length, replicate}
use Rattle.sets.specs.Refusals.{Row}
use Rattle.tag_file.specs.Loading.{Lists}

-- a list that was lent, afterwards: all zeros, or as before
abbrev pub cleared_if : Bool → List ℕ → List ℕ
cleared_if clears before = cond clears (replicate (length before) 0) before

-- a call that a row refuses: its words are the row's number and the two numbers that return with it, then a zero for each value; and
-- each list that it was lent to fill is all zeros where the row clears, else as before
pub record RefusedBy (row : Row) (values : ℕ) (words : List ℕ) (before after : List (List ℕ)) : Type 0 where
  pub told : words ≡ row.number ∷ row.first ∷ row.second ∷ replicate values 0
  pub left : after ≡ map (cleared_if row.clears) before

-- the seven lists of a load in their order
abbrev pub seven_lists : Lists → List (List ℕ)
seven_lists l =
    l.tags ∷ l.left_numbers ∷ l.left_ends ∷ l.left_items ∷ l.right_numbers ∷ l.right_ends ∷ l.right_items ∷ []
