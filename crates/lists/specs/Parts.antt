-- Inner: a list of words of which only a part may change: the frame that the functions on a lent work list state.
use Rattle.std.specs.Prelude.{ℕ, ◌≡◌, List, length, take, drop}

-- w became w', and only w[lo..hi] may differ
pub record Changed (lo hi : ℕ) (w w' : List ℕ) : Type 0 where
  pub size : length w' ≡ length w
  pub low : take lo w' ≡ take lo w
  pub high : drop hi w' ≡ drop hi w
