-- Inner: a part of a list of words, copied to the words from a place on.
use Rattle.std.specs.Prelude.{ℕ, ◌+◌, ◌-◌, ◌≡◌, List}
use Rattle.lists.specs.Lists.{slice}
use Rattle.lists.specs.Parts.{Changed}

-- w became w': work[top..r] is a copy of the part
pub record Copied (from to top : ℕ) (w w' : List ℕ) (r : ℕ) : Type 0 where
  pub changed : Changed top (top + (to - from)) w w'
  pub past : r ≡ top + (to - from)
  pub is : slice top r w' ≡ slice from to w
