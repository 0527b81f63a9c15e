-- Inner: words of 64 bits that stand in the work list two by two, by their digits.
use Rattle.std.specs.Prelude.{ℕ, ◌+◌, ◌*◌, ◌<◌, ◌≤◌, ◌≡◌, List, Bool, ◌&&◌, ◌||◌, eqb, length, get_or}
use Rattle.bit_sets.specs.BitSets.{bit_at}
use Rattle.signatures.specs.Signing.{double}

-- digit j of the word c of 64 bits
abbrev pub digit : List ℕ → ℕ → ℕ → Bool
digit w c j = bit_at (double w (2 * c)) j

-- a word and a digit of it that there are
pub record DigitRoom (c j : ℕ) (w : List ℕ) : Type 0 where
  pub within : 2 * c + 2 ≤ length w
  pub below : j < 64

-- w became w': digit j of the word c is 1, and every other digit is as before
pub record DigitSet (c j : ℕ) (w w' : List ℕ) : Type 0 where
  pub size : length w' ≡ length w
  pub holds : (d i : ℕ) → digit w' d i ≡ ((eqb d c && eqb i j) || digit w d i)

-- the words of 64 bits from one on that the numbers of a list name are there
abbrev pub ReadRoom : ℕ → List ℕ → List ℕ → Type 0
ReadRoom from list w = (e : ℕ) → e < length list → 2 * (from + get_or list e 0) + 2 ≤ length w
