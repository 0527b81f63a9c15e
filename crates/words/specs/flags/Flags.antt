-- Inner: tables of flags, one for each number below their length, and the words of a part that one keeps, written behind the part.
use Rattle.std.specs.Prelude.{ℕ, ◌+◌, ◌-◌, ◌≤◌, ◌<◌, ◌≡◌, List, Bool, true, false, eqb, ltb, length, get_or}
use Rattle.lists.specs.Lists.{one, all, keep, memb, slice}
use Rattle.lists.specs.Parts.{Changed}

-- how many flags a table has
abbrev pub flag_room : ℕ
flag_room = 4096

-- work[lo..hi] is below a bound
pub record Below (bound lo hi : ℕ) (w : List ℕ) : Type 0 where
  pub order : lo ≤ hi
  pub within : hi ≤ length w
  pub below : all (λ s. ltb s bound) (slice lo hi w) ≡ true

-- the flag of each number in the table is 1 if the test holds of it, else 0
pub record Flagged (test : ℕ → Bool) (flags : List ℕ) : Type 0 where
  pub is : (s : ℕ) → s < length flags → get_or flags s 0 ≡ one (test s)

-- the flag of each number of a list became the one given; the others are as they were
pub record FlagsSet (flag : ℕ) (list was is : List ℕ) : Type 0 where
  pub size : length is ≡ length was
  pub member : (s : ℕ) → s < length was → memb s list ≡ true → get_or is s 0 ≡ flag
  pub other : (s : ℕ) → memb s list ≡ false → get_or is s 0 ≡ get_or was s 0

-- whether the flag of a number is 1
abbrev pub is_flagged : List ℕ → ℕ → Bool
is_flagged flags s = eqb (get_or flags s 0) 1

-- a table in which no number is flagged
pub record Clear (flags : List ℕ) : Type 0 where
  pub size : length flags ≡ flag_room
  pub none : Flagged (λ s. false) flags

-- work[c..e] is below out, and from out on there is room for it
pub record Behind (c e out : ℕ) (w : List ℕ) : Type 0 where
  pub low : e ≤ out
  pub room : out + (e - c) ≤ length w

-- w became w': work[out..r] has those words of work[c..e] that pass the test
pub record Kept (test : ℕ → Bool) (c e out : ℕ) (w w' : List ℕ) (r : ℕ) : Type 0 where
  pub changed : Changed out (out + (e - c)) w w'
  pub low : out ≤ r
  pub high : r ≤ out + (e - c)
  pub is : slice out r w' ≡ keep test (slice c e w)
