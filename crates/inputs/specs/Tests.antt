-- The tests of an input that operations share, in the order of the refusal table: T, the sets of each side, the work list.
-- Document 01, "When no list is made": each operation names those that it has.
use Rattle.std.specs.Prelude.{ℕ, ◌+◌, ◌*◌, List, not, ltb, length, Result, Err, ⊤}
use Rattle.sets.specs.Limits.{max_items}
use Rattle.sets.specs.Collections.{Collection, good_items, first_bad, entries}
use Rattle.sets.specs.Refusals.{refuse_if, no_bad_set, unless}
use Rattle.sets.specs.declared.Side.{Side}
use Rattle.sets.specs.declared.Side.TheVariants.{Left, Right}
use Rattle.sets.specs.declared.Refusal.TheVariants.{BadSet, BadSettings, ShortWork}
use Rattle.inputs.specs.Input.{Input}
use Rattle.sets.specs.declared.Refusal.{Refusal}

-- T is within its limit: 6
abbrev pub items_test : ℕ → Result ⊤ Refusal
items_test T = refuse_if (ltb max_items T) BadSettings

-- a side has no bad set: 5
abbrev pub side_test : ℕ → Side → Collection → Result ⊤ Refusal
side_test T side c = no_bad_set side (first_bad T c.ends c.items)

-- neither side has a bad set, the left side first: 5
unfoldable pub sets_test : Input → Result ⊤ Refusal
sets_test i = unless Err (side_test i.T Left i.left) (side_test i.T Right i.right)

-- a lone right set, lent as its items alone, is not bad: 5, with the place that it would have
unfoldable pub lone_test : ℕ → ℕ → List ℕ → Result ⊤ Refusal
lone_test T place set = refuse_if (not (good_items T set)) (BadSet Right place)

-- the size of an input (n in document 01): sets, entries and items
abbrev pub input_size : ℕ → List ℕ → List ℕ → ℕ
input_size T left_ends right_ends = length left_ends + length right_ends + (entries left_ends + entries right_ends) + T

-- the words that a work list must have
abbrev pub words_for : ℕ → List ℕ → List ℕ → ℕ
words_for T left_ends right_ends = 16 * input_size T left_ends right_ends + 64

unfoldable pub words_needed : Input → ℕ
words_needed i = words_for i.T i.left.ends i.right.ends

-- the work list is long enough: 7
unfoldable pub work_test : Input → ℕ → Result ⊤ Refusal
work_test i words = refuse_if (ltb words (words_needed i)) ShortWork
