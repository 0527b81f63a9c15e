-- Inner: where a word would be in a rising list of words.
use Rattle.std.specs.Prelude.{ℕ, ◌≤◌, ◌<◌, List, length, get_or}

-- part[..r] is below x, and part[r..] is not
pub record Parted (x : ℕ) (part : List ℕ) (r : ℕ) : Type 0 where
  pub high : r ≤ length part
  pub under : (i : ℕ) → i < r → get_or part i 0 < x
  pub over : (i : ℕ) → r ≤ i → i < length part → x ≤ get_or part i 0
