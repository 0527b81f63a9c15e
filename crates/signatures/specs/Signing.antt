-- Inner: what the loops that make the signatures need and leave: for each set two words, low then high.
use Rattle.std.specs.Prelude.{ℕ, ◌+◌, ◌*◌, ◌≤◌, ◌<◌, ◌≡◌, List, [], length, take, drop, get_or}
use Rattle.sets.specs.Limits.{full_words}
use Rattle.sets.specs.Collections.{Collection}
use Rattle.sets.specs.Signatures.{signature}

-- no set of a collection ends past its items
abbrev pub EndsWithin : Collection → Type 0
EndsWithin sets = (k : ℕ) → k < length sets.ends → get_or sets.ends k 0 ≤ length sets.items

-- two words, low then high, as one number
abbrev pub double : List ℕ → ℕ → ℕ
double w i = get_or w i 0 + full_words * get_or w (i + 1) 0

-- w became w': the number is in two words from at on, and no other word changed
pub record DoubleStored (at number : ℕ) (w w' : List ℕ) : Type 0 where
  pub frame : take at w' ≡ take at w
  pub above : drop (at + 2) w' ≡ drop (at + 2) w
  pub size : length w' ≡ length w
  pub is : double w' at ≡ number

-- a collection, and room for its signatures from at on
pub record SigningRoom (at : ℕ) (sets : Collection) (w : List ℕ) : Type 0 where
  pub within : EndsWithin sets
  pub room : at + 2 * length sets.ends ≤ length w

-- w became w': from at on the signatures of the first n sets were written; nothing below at changed
pub record Signed (at n : ℕ) (sets : List (List ℕ)) (w w' : List ℕ) : Type 0 where
  pub frame : take at w' ≡ take at w
  pub size : length w' ≡ length w
  pub signatures : (k : ℕ) → k < n → double w' (at + 2 * k) ≡ signature (get_or sets k [])

-- two collections, with room for the signatures of the right sets and above them of the left
pub record BothRoom (right_at left_at : ℕ) (rights lefts : Collection) (w : List ℕ) : Type 0 where
  pub right_within : EndsWithin rights
  pub left_within : EndsWithin lefts
  pub above : right_at + 2 * length rights.ends ≤ left_at
  pub room : left_at + 2 * length lefts.ends ≤ length w

-- w became w': both sides have their signatures
pub record BothSigned (right_at left_at : ℕ) (rights lefts : List (List ℕ)) (w w' : List ℕ) : Type 0 where
  pub frame : take right_at w' ≡ take right_at w
  pub size : length w' ≡ length w
  pub right : (s : ℕ) → s < length rights → double w' (right_at + 2 * s) ≡ signature (get_or rights s [])
  pub left : (k : ℕ) → k < length lefts → double w' (left_at + 2 * k) ≡ signature (get_or lefts k [])
