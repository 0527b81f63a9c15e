-- What the writer of a tag file answers and leaves. Document 01, "Tag file", second paragraph, and rows 4 to 6 of "When no
-- list is made". The seven lists are the loader's, and records those of tag_file's Format. Left sets are kits there, and right
-- sets stacks.
use Rattle.std.specs.Prelude.{◌≡◌, ℕ, ◌*◌, min, List, [], ◌∷◌, ◌++◌, map, not, eqb, ltb, length, Result, Err, Ok, ⊤}
use Rattle.sets.specs.Collections.{sets_of}
use Rattle.sets.specs.Refusals.{refuse_if, unless, accepted_words, refused_words}
use Rattle.sets.specs.Lent.{filled_over, after_refusal}
use Rattle.sets.specs.declared.Side.{Side}
use Rattle.sets.specs.declared.Side.TheVariants.{Left, Right}
use Rattle.sets.specs.declared.Refusal.TheVariants.{ShortOutput, BadSet, BadSettings}
use Rattle.inputs.specs.Tests.{items_test, side_test}
use Rattle.tag_file.specs.Format.{tag_length, tag_at, record_bytes}
use Rattle.tag_file.specs.Loading.{Lists}
use Rattle.sets.specs.declared.Refusal.{Refusal}

-- ---- the file

-- the tag of an item: the 12 bytes at 12 times the item in the tag table
abbrev pub item_tag : List ℕ → ℕ → ℕ
item_tag tags item = tag_at tags (tag_length * item)

-- the tags of a set, by item
abbrev pub item_tags : List ℕ → List ℕ → List ℕ
item_tags tags set = map (item_tag tags) set

-- the records of a side, by place: one for each number with its set
unfoldable pub records_of : Side → List ℕ → List ℕ → List (List ℕ) → List ℕ
records_of side tags [] sets = []
records_of side tags (number ∷ numbers) [] = []
records_of side tags (number ∷ numbers) (set ∷ sets) =
    record_bytes side number (item_tags tags set) ++ records_of side tags numbers sets

-- the records of the left sets, and of the right sets
abbrev pub left_bytes : Lists → List ℕ
left_bytes l = records_of Left l.tags l.left_numbers (sets_of l.left_ends l.left_items)

abbrev pub right_bytes : Lists → List ℕ
right_bytes l = records_of Right l.tags l.right_numbers (sets_of l.right_ends l.right_items)

-- the whole file: the left sets' records, then the right sets'
unfoldable pub file_bytes : Lists → List ℕ
file_bytes l = left_bytes l ++ right_bytes l

-- ---- the tests

-- T is within its limit, and the tag table has 12 bytes for each item: 6
unfoldable pub table_test : ℕ → List ℕ → Result ⊤ Refusal
table_test T tags =
    unless Err (items_test T) (refuse_if (not (eqb (length tags) (tag_length * T))) BadSettings)

-- a side has as many numbers as sets: 5, with the shorter length as the place
abbrev pub numbers_test : Side → List ℕ → List ℕ → Result ⊤ Refusal
numbers_test side numbers ends =
    refuse_if (not (eqb (length numbers) (length ends))) (BadSet side (min (length numbers) (length ends)))

-- a side has no bad set, and then as many numbers as sets: 5
unfoldable pub numbered_test : ℕ → Side → List ℕ → List ℕ → List ℕ → Result ⊤ Refusal
numbered_test T side numbers ends items =
    unless Err (side_test T side (record { ends = ends; items = items })) (numbers_test side numbers ends)

-- what is lent to be written: 6, 5 of the left sets, 5 of the right sets
unfoldable pub lists_test : ℕ → Lists → Result ⊤ Refusal
lists_test T l =
    unless Err (table_test T l.tags)
    (unless Err (numbered_test T Left l.left_numbers l.left_ends l.left_items)
    (numbered_test T Right l.right_numbers l.right_ends l.right_items))

-- the output has room for so many bytes: 4
abbrev pub room_test : ℕ → ℕ → Result ⊤ Refusal
room_test room bytes = refuse_if (ltb room bytes) ShortOutput

-- ---- the answer, and the output afterwards

-- the length of what is written, if the output has room for it
abbrev pub written_within : ℕ → List ℕ → Result ℕ Refusal
written_within room bytes = unless Err (room_test room (length bytes)) (Ok (length bytes))

-- the writer's answer: what is lent, then 4, or the length written
unfoldable pub write_answer : ℕ → Lists → ℕ → Result ℕ Refusal
write_answer T l room = unless Err (lists_test T l) (written_within room (file_bytes l))

-- the output after an answer: the bytes with the rest as before; zeros after 4; unchanged after 5 and 6
abbrev pub file_after : Result ℕ Refusal → List ℕ → List ℕ → List ℕ
file_after (Ok n) bytes file = filled_over bytes file
file_after (Err why) bytes file = after_refusal why file

-- the output after a write
abbrev pub written_file : ℕ → Lists → List ℕ → List ℕ
written_file T l before = file_after (write_answer T l (length before)) (file_bytes l) before

-- the words of an answer: the length
abbrev pub write_words : Result ℕ Refusal → List ℕ
write_words (Ok n) = accepted_words (n ∷ [])
write_words (Err why) = refused_words why 1

-- a call of the writer over seven lists: its answer, and its output list before and after
pub record WriteCall (T : ℕ) (l : Lists) (before after : List ℕ) (answer : Result ℕ Refusal) : Type 0 where
  pub answered : answer ≡ write_answer T l (length before)
  pub file : after ≡ written_file T l before
