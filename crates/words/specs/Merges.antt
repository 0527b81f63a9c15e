-- Inner: rising parts of a list of words, and how far one is passed over in a search for the other's words.
use Rattle.std.specs.Prelude.{ℕ, ◌-◌, ◌≤◌, ◌<◌, ◌≡◌, List, true, length, get_or}
use Rattle.lists.specs.Lists.{subset, rising, slice}

-- work[lo..hi] strictly rises; it is empty if hi is at most lo
pub record Rising (lo hi : ℕ) (w : List ℕ) : Type 0 where
  pub within : hi ≤ length w
  pub rise : rising (slice lo hi w) ≡ true

-- in work[c..e], what is from r on has no bearing on whether it has the words of work[a..b], and the word before r, if there is one,
-- is not above the last of those
pub record Skipped (a b c e : ℕ) (w : List ℕ) (r : ℕ) : Type 0 where
  pub high : r ≤ e
  pub stop : c < r → get_or w (r - 1) 0 ≤ get_or w (b - 1) 0
  pub rise : rising (slice c r w) ≡ true
  pub same : subset (slice a b w) (slice c r w) ≡ subset (slice a b w) (slice c e w)

-- in work[c..e], what is before r has no bearing on whether it has the words of work[a..b], and the word at r, if there is one, is not
-- below the first of those
pub record Passed (a b c e : ℕ) (w : List ℕ) (r : ℕ) : Type 0 where
  pub stop : r < e → get_or w a 0 ≤ get_or w r 0
  pub rise : rising (slice r e w) ≡ true
  pub same : subset (slice a b w) (slice r e w) ≡ subset (slice a b w) (slice c e w)
