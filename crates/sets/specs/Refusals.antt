-- The refusal table of document 01, "When no list is made", a row a refusal; the words that every answer begins with; and tests in a
-- row: the first that refuses decides.
use Rattle.std.specs.Prelude.{ℕ, List, ◌∷◌, Bool, true, false, cond, replicate, Option, None, Some, Result, Err, Ok, ⊤}
use Rattle.sets.specs.declared.Side.{Side}
use Rattle.sets.specs.declared.Side.TheVariants.{Left, Right}
use Rattle.sets.specs.declared.Refusal.{Refusal}
use Rattle.sets.specs.declared.Refusal.TheVariants.{Malformed, NumberUsed, TooMany, ShortOutput, BadSet, BadSettings}
use Rattle.sets.specs.declared.Refusal.TheVariants.{ShortWork, Spent, ShortPairs, Overlong}

-- a row: the number, the two numbers that return with it, and whether the outputs become zeros or stay as they were
pub record Row : Type 0 where
  pub number : ℕ
  pub first : ℕ
  pub second : ℕ
  pub clears : Bool

abbrev pub clearing : ℕ → ℕ → Row
clearing number place = record { number = number; first = place; second = 0; clears = true }

abbrev pub keeping : ℕ → ℕ → ℕ → Row
keeping number first second = record { number = number; first = first; second = second; clears = false }

-- the number of a side
abbrev pub side_number : Side → ℕ
side_number Left = 0
side_number Right = 1

-- the table; a place is the byte place of a record, or the place of a set
abbrev pub row_of : Refusal → Row
row_of (Malformed place) = clearing 1 place
row_of (NumberUsed place) = clearing 2 place
row_of (TooMany place) = clearing 3 place
row_of ShortOutput = clearing 4 0
row_of (BadSet side place) = keeping 5 (side_number side) place
row_of BadSettings = keeping 6 0 0
row_of ShortWork = keeping 7 0 0
row_of Spent = clearing 8 0
row_of ShortPairs = clearing 9 0
row_of (Overlong place) = clearing 10 place

-- whether the outputs become zeros
abbrev pub clears : Refusal → Bool
clears why = (row_of why).clears

-- the words of an answer that refuses: number, what returns with it, and a zero for each value that an accepted one would have
abbrev pub refused_words : Refusal → ℕ → List ℕ
refused_words why values = (row_of why).number ∷ (row_of why).first ∷ (row_of why).second ∷ replicate values 0

-- the words of an answer that accepts: three zeros, then the values
abbrev pub accepted_words : List ℕ → List ℕ
accepted_words values = 0 ∷ 0 ∷ 0 ∷ values

-- a test that fails with this refusal if something is wrong
abbrev pub refuse_if : Bool → Refusal → Result ⊤ Refusal
refuse_if wrong why = cond wrong (Err why) (Ok tt)

-- the test of a side's sets, by its first bad one
abbrev pub no_bad_set : Side → Option ℕ → Result ⊤ Refusal
no_bad_set side None = Ok tt
no_bad_set side (Some place) = Err (BadSet side place)

-- the refusal of a failed test, or else what follows
abbrev pub unless : {A : Type 0} → (Refusal → A) → Result ⊤ Refusal → A → A
unless refused (Ok _) next = next
unless refused (Err why) next = refused why
