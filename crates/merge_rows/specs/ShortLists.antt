-- Inner: pairs written into a pair list that may be too short for them: where they would pass its end nothing is stored, and only the
-- place moves on.
use Rattle.std.specs.Prelude.{ℕ, ◌+◌, ◌*◌, ◌<◌, ◌≤◌, ◌≡◌, List, [], ◌∷◌, map, length, get_or}
use Rattle.std.proofs.lemmas.List.Edits.{sets}
use Rattle.lists.specs.Lists.{upto}
use Rattle.lists.specs.Writing.{RoomFor}
use Rattle.sets.specs.Limits.{max_sets, full_words}
use Rattle.bit_sets.specs.BitSets.{digits_from}

-- the pairs of left place k with each of the right places
unfoldable pub pairs_with : ℕ → List ℕ → List ℕ
pairs_with k [] = []
pairs_with k (s ∷ places) = k ∷ s ∷ pairs_with k places

-- numbers were to be written at a place, and r is the place after them: they stand there where they don't pass the end
pub record Listed (was : List ℕ) (at : ℕ) (new : List ℕ) (r : ℕ) (is : List ℕ) : Type 0 where
  pub past : r ≡ at + length new
  pub size : length is ≡ length was
  pub written : r ≤ length was → is ≡ sets was at new

-- the places of a word's right sets, whose first is base, fit 16 bits, as the left place does
pub record WordPairs (k base : ℕ) : Type 0 where
  pub left : k < max_sets
  pub right : base + 64 ≤ max_sets

-- and there is room for the pairs
pub record PairsRoom (word k base at : ℕ) (pairs : List ℕ) : Type 0 where
  pub places : WordPairs k base
  pub room : RoomFor pairs at (pairs_with k (digits_from 64 base word))

-- the right places of n pairs that stand from a place on
abbrev pub right_places : List ℕ → ℕ → ℕ → List ℕ
right_places pairs from n = map (λ i. get_or pairs (from + 2 * i + 1) 0) (upto n)

-- n pairs from a place on, all below the place to which they are copied
pub record CopyFrom (from n k at : ℕ) : Type 0 where
  pub left : k < max_sets
  pub below : from + 2 * n ≤ at
  pub small : at + 2 * n < full_words

-- and there is room for the copy
pub record CopyRoom (from n k at : ℕ) (pairs : List ℕ) : Type 0 where
  pub source : CopyFrom from n k at
  pub room : at + 2 * n ≤ length pairs
