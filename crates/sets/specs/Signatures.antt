-- Signatures of sets (marks in document 01): a 64-bit word with a bit for each item. They tell apart most pairs that are not
-- contained. Document 01, "The run", the paragraph on marks.
use Rattle.std.specs.Prelude.{ℕ, ◌%◌, ◌^◌, List, [], ◌∷◌, Bool, not, eqb}
use Rattle.std.specs.Int.Bits.{bit_and, bit_or}

-- the bit of an item: (3^k mod 257) mod 64
unfoldable pub position : ℕ → ℕ
position k = 3 ^ k % 257 % 64

-- the word m with the bits of the items set too
unfoldable pub signature_from : ℕ → List ℕ → ℕ
signature_from m [] = m
signature_from m (k ∷ ks) = signature_from (bit_or m (2 ^ position k)) ks

-- the signature of a set
abbrev pub signature : List ℕ → ℕ
signature set = signature_from 0 set

-- whether a bit of the left signature is missing in the right one: the pair is dropped
abbrev pub drops : ℕ → ℕ → Bool
drops left right = not (eqb (bit_and left right) left)
