-- Inner: sets of numbers kept as the digits of words of 64 bits: digit j of word w tells whether 64 * w + j is a member.
use Rattle.std.specs.Prelude.{ℕ, zero, suc, ◌*◌, ◌/◌, ◌%◌, ◌^◌, ◌≤◌, ◌<◌, ◌≡◌, List, [], Bool, ◌||◌, eqb, length, get_or}
use Rattle.lists.specs.Lists.{onto, keep, memb, upto}
use Rattle.lists.specs.Writing.{RoomFor}

-- whether digit j of a word is 1
abbrev pub bit_at : ℕ → ℕ → Bool
bit_at word j = eqb (word / 2 ^ j % 2) 1

-- whether a number is a member
abbrev pub member : List ℕ → ℕ → Bool
member words i = bit_at (get_or words (i / 64) 0) (i % 64)

-- the members, in rising order
unfoldable pub members : List ℕ → List ℕ
members words = keep (member words) (upto (64 * length words))

-- the places of the digits 1 among the k lowest of a word, counted from base on
unfoldable pub digits_from : ℕ → ℕ → ℕ → List ℕ
digits_from zero base word = []
digits_from (suc k) base word = onto (eqb (word % 2) 1) base (digits_from k (suc base) (word / 2))

-- i became a member, and nothing else changed
pub record Inserted (was : List ℕ) (i : ℕ) (is : List ℕ) : Type 0 where
  pub size : length is ≡ length was
  pub holds : (j : ℕ) → member is j ≡ (eqb j i || member was j)

-- i became a member: r tells whether it was one before
pub record Claimed (was : List ℕ) (i : ℕ) (r : Bool) (is : List ℕ) : Type 0 where
  pub before : r ≡ member was i
  pub noted : Inserted was i is

-- a list whose numbers can be members
pub record PartFits (words xs : List ℕ) : Type 0 where
  pub small : (k : ℕ) → k < length xs → get_or xs k 0 < 64 * length words

-- numbers became members, and nothing else changed
pub record InsertedAll (was new is : List ℕ) : Type 0 where
  pub size : length is ≡ length was
  pub holds : (j : ℕ) → member is j ≡ (memb j new || member was j)

-- the members fit 16 bits, and there is room for them from a place on
pub record Drainable (words out : List ℕ) (at : ℕ) : Type 0 where
  pub small : 64 * length words ≤ 65536
  pub room : RoomFor out at (members words)
