-- Inner: what two parts of a list of words share, written behind them.
use Rattle.std.specs.Prelude.{ℕ, ◌+◌, ◌-◌, ◌≤◌, ◌≡◌, List, length}
use Rattle.lists.specs.Lists.{keep, memb, slice}
use Rattle.lists.specs.Parts.{Changed}

-- parts that end at b and e are below out, and from out on there is room for the second, which begins at c
pub record Apart (b c e out : ℕ) (w : List ℕ) : Type 0 where
  pub first : b ≤ out
  pub second : e ≤ out
  pub room : out + (e - c) ≤ length w

-- w became w': work[out..r] is what work[a..b] shares with work[c..e]
pub record Intersected (a b c e out : ℕ) (w w' : List ℕ) (r : ℕ) : Type 0 where
  pub changed : Changed out (out + (e - c)) w w'
  pub low : out ≤ r
  pub high : r ≤ out + (e - c)
  pub is : slice out r w' ≡ keep (λ s. memb s (slice c e w)) (slice a b w)
