-- Inner: the bytes that the line of a pair takes at most, and what the writing of pairs asks.
use Rattle.std.specs.Prelude.{ℕ, ◌+◌, ◌*◌, ◌≤◌, ◌≡◌, List, [], ◌∷◌, Bool, true, false, ◌&&◌, ltb, length}

-- the line of a pair: two 16-bit numbers have 5 bytes each
abbrev pub pair_room : ℕ
pair_room = 12

-- whether each pair is of a place below m and one below n; a half pair is none
unfoldable pub pairs_within : ℕ → ℕ → List ℕ → Bool
pairs_within m n [] = true
pairs_within m n (x ∷ []) = false
pairs_within m n (x ∷ y ∷ rest) = (ltb x m && ltb y n) && pairs_within m n rest

-- pairs of places that have numbers, and room for a line each from a place of the text on
pub record PairsRoom (text : List ℕ) (at : ℕ) (pairs left_numbers right_numbers : List ℕ) : Type 0 where
  pub within : pairs_within (length left_numbers) (length right_numbers) pairs ≡ true
  pub room : at + 6 * length pairs ≤ length text
