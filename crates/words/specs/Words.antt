-- Inner: words of a list.
use Rattle.std.specs.Prelude.{ℕ, ◌<◌, ◌≡◌, List, get_or}

-- r is the word at place i
pub record Word (w : List ℕ) (i r : ℕ) : Type 0 where
  pub is : r ≡ get_or w i 0
  pub small : r < 4294967296
