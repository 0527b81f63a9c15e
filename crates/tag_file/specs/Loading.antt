-- The loader: the first record at fault, the seven lists that are filled, the answer, and what each lent list holds at the end.
-- Document 01, "Tag file", and rows 1 to 4 of "When no list is made": "the first record at fault decides, by 1, 2, 3; then 4".
use Rattle.std.specs.Prelude.{ℕ, ◌+◌, ◌≡◌, Bool, not, ◌&&◌, ◌||◌, eqb, leb, ltb, length, Result, Err, Ok, ⊤}
use mathlib.Core.List.{List, [], ◌∷◌, ◌++◌, map, flatten}
use Rattle.std.specs.Borrow.{MutBor}
use Rattle.lists.specs.Lists.{any}
use Rattle.lists.specs.Lent.{LentMut}
use Rattle.sets.specs.Limits.{max_items, max_sets, max_entries}
use Rattle.sets.specs.Refusals.{refuse_if, unless}
use Rattle.sets.specs.Lent.{filled_over, after_refusal}
use Rattle.sets.specs.declared.Side.{Side}
use Rattle.sets.specs.declared.Side.TheVariants.{Left, Right}
use Rattle.sets.specs.declared.Refusal.TheVariants.{NumberUsed, TooMany, ShortOutput}
use Rattle.tag_file.specs.declared.Lists as declared
use Rattle.tag_file.specs.declared.Loaded.{Loaded}
use Rattle.tag_file.specs.Format.{tag_bytes}
use Rattle.tag_file.specs.Reading.{read_at}
use Rattle.tag_file.specs.Records.{TagRecord, total_length, records, same_side, of_side, tag_table, entries_of, sets_of_side}
use Rattle.tag_file.specs.Repeats.{repeat_totals}
use Rattle.tag_file.specs.declared.ReadAnswer.{ReadAnswer}
use Rattle.tag_file.specs.declared.ReadAnswer.TheVariants.{Record, NoMore, Refused}
use Rattle.sets.specs.declared.Refusal.{Refusal}
use Rattle.tag_file.specs.declared.Repeats.{Repeats}

-- whether a record of the same side has this number
abbrev pub number_used : List TagRecord → TagRecord → Bool
number_used seen r = any (λ s. same_side s.side r.side && eqb s.number r.number) seen

-- whether records pass a limit: the sets or entries of a side, or the distinct tags of both
unfoldable pub too_many : Side → List TagRecord → Bool
too_many side rs =
    ltb max_sets (length (of_side side rs)) || (ltb max_entries (entries_of side rs) || ltb max_items (length (tag_table rs)))

-- the test of a whole record that follows those seen: 2 before 3, with its byte place
unfoldable pub fault_of : List TagRecord → TagRecord → Result ⊤ Refusal
fault_of seen r =
    unless Err (refuse_if (number_used seen r) (NumberUsed (total_length seen)))
    (refuse_if (too_many r.side (seen ++ (r ∷ []))) (TooMany (total_length seen)))

-- the first fault of records that follow those seen, or else what the reading ended with
unfoldable pub first_fault : List TagRecord → List TagRecord → Result ⊤ Refusal → Result ⊤ Refusal
first_fault seen [] last = last
first_fault seen (r ∷ rs) last = unless Err (fault_of seen r) (first_fault (seen ++ (r ∷ [])) rs last)

-- the refusal that the reading ended with; at the file's end there is none
abbrev pub refusal_of : ReadAnswer → Result ⊤ Refusal
refusal_of (Refused why) = Err why
refusal_of NoMore = Ok tt
refusal_of (Record side number count place next) = Ok tt

-- the first fault of a file: of its whole records, or else at the place where they end
unfoldable pub file_fault : List ℕ → Result ⊤ Refusal
file_fault file = first_fault [] (records file) (refusal_of (read_at file (total_length (records file))))

-- the seven lists: the tag table as bytes, and for each side the record numbers, the ends and the items
pub record Lists : Type 0 where
  pub tags : List ℕ
  pub left_numbers : List ℕ
  pub left_ends : List ℕ
  pub left_items : List ℕ
  pub right_numbers : List ℕ
  pub right_ends : List ℕ
  pub right_items : List ℕ

-- the record numbers of a side, by place
abbrev pub numbers_of : Side → List TagRecord → List ℕ
numbers_of side rs = map (λ r. r.number) (of_side side rs)

-- where each of the sets ends, the first beginning at start
unfoldable pub ends_from : ℕ → List (List ℕ) → List ℕ
ends_from start [] = []
ends_from start (set ∷ sets) = (start + length set) ∷ ends_from (start + length set) sets

abbrev pub ends_of : Side → List TagRecord → List ℕ
ends_of side rs = ends_from 0 (sets_of_side side (tag_table rs) rs)

-- the items of a side, one set after the other
abbrev pub flat_items : Side → List TagRecord → List ℕ
flat_items side rs = flatten (sets_of_side side (tag_table rs) rs)

-- what an accepted file fills
abbrev pub filled : List TagRecord → Lists
filled rs =
    record {
      tags = tag_bytes (tag_table rs);
      left_numbers = numbers_of Left rs;
      left_ends = ends_of Left rs;
      left_items = flat_items Left rs;
      right_numbers = numbers_of Right rs;
      right_ends = ends_of Right rs;
      right_items = flat_items Right rs;
    }

-- whether a part fits into a lent list
abbrev pub fits : List ℕ → List ℕ → Bool
fits part lent = leb (length part) (length lent)

-- whether each lent list is long enough
unfoldable pub room_for : Lists → Lists → Bool
room_for part lent =
    fits part.tags lent.tags
    && (fits part.left_numbers lent.left_numbers
    && (fits part.left_ends lent.left_ends
    && (fits part.left_items lent.left_items
    && (fits part.right_numbers lent.right_numbers
    && (fits part.right_ends lent.right_ends && fits part.right_items lent.right_items)))))

-- how much records give: sets and collapsed entries a side, and distinct tags
abbrev pub totals_of : List TagRecord → Loaded
totals_of rs =
    record {
      left_sets = length (of_side Left rs);
      right_sets = length (of_side Right rs);
      left_entries = entries_of Left rs;
      right_entries = entries_of Right rs;
      tag_count = length (tag_table rs);
    }

-- the loader's answer: the first record at fault by 1, 2, 3; then 4; else how much was filled, and the repeats
unfoldable pub load_answer : List ℕ → Lists → Result (Loaded × Repeats) Refusal
load_answer file lent =
    unless Err (file_fault file)
    (unless Err (refuse_if (not (room_for (filled (records file)) lent)) ShortOutput)
    (Ok ((totals_of (records file)), (repeat_totals (records file)))))

-- a lent list at the end: filled from its beginning and as before beyond, or as the refusal leaves it
abbrev pub lent_after : Result (Loaded × Repeats) Refusal → List ℕ → List ℕ → List ℕ
lent_after (Ok (totals, repeats)) part lent = filled_over part lent
lent_after (Err why) part lent = after_refusal why lent

-- the seven lent lists at the end, by the answer and what it fills
abbrev pub lists_by : Result (Loaded × Repeats) Refusal → Lists → Lists → Lists
lists_by answer part lent =
    record {
      tags = lent_after answer part.tags lent.tags;
      left_numbers = lent_after answer part.left_numbers lent.left_numbers;
      left_ends = lent_after answer part.left_ends lent.left_ends;
      left_items = lent_after answer part.left_items lent.left_items;
      right_numbers = lent_after answer part.right_numbers lent.right_numbers;
      right_ends = lent_after answer part.right_ends lent.right_ends;
      right_items = lent_after answer part.right_items lent.right_items;
    }

-- the same after the load of a file
abbrev pub lists_after : List ℕ → Lists → Lists
lists_after file lent = lists_by (load_answer file lent) (filled (records file)) lent

-- seven lists by their names
abbrev pub lists_of : List ℕ → List ℕ → List ℕ → List ℕ → List ℕ → List ℕ → List ℕ → Lists
lists_of tags left_numbers left_ends left_items right_numbers right_ends right_items =
    record {
      tags = tags;
      left_numbers = left_numbers;
      left_ends = left_ends;
      left_items = left_items;
      right_numbers = right_numbers;
      right_ends = right_ends;
      right_items = right_items;
    }

-- seven lent lists as they come
abbrev pub lent_lists : LentMut → LentMut → LentMut → LentMut → LentMut → LentMut → LentMut → Lists
lent_lists tags left_numbers left_ends left_items right_numbers right_ends right_items =
    lists_of tags.entry.now left_numbers.entry.now left_ends.entry.now left_items.entry.now
    right_numbers.entry.now right_ends.entry.now right_items.entry.now

-- the same as they go back
abbrev pub returned_lists : LentMut → LentMut → LentMut → LentMut → LentMut → LentMut → LentMut → Lists
returned_lists tags left_numbers left_ends left_items right_numbers right_ends right_items =
    lists_of tags.exit.now left_numbers.exit.now left_ends.exit.now left_items.exit.now
    right_numbers.exit.now right_ends.exit.now right_items.exit.now

-- and as a `requires` has them
abbrev pub lists_now : MutBor (List ℕ) → MutBor (List ℕ) → MutBor (List ℕ) → MutBor (List ℕ) → MutBor (List ℕ)
    → MutBor (List ℕ) → MutBor (List ℕ) → Lists
lists_now tags left_numbers left_ends left_items right_numbers right_ends right_items =
    lists_of tags.now left_numbers.now left_ends.now left_items.now
    right_numbers.now right_ends.now right_items.now

-- seven lists that are read
abbrev pub read_lists : declared.Lists → Lists
read_lists l =
    lists_of l.tags.now l.left.numbers.now l.left.sets.ends.now l.left.sets.items.now
    l.right.numbers.now l.right.sets.ends.now l.right.sets.items.now

-- a load of a file into seven lent lists: what is answered, and each list afterwards
pub record LoadCall (file : List ℕ) (before after : Lists) (answer : Result (Loaded × Repeats) Refusal) : Type 0 where
  pub answered : answer ≡ load_answer file before
  pub tags : after.tags ≡ (lists_after file before).tags
  pub left_numbers : after.left_numbers ≡ (lists_after file before).left_numbers
  pub left_ends : after.left_ends ≡ (lists_after file before).left_ends
  pub left_items : after.left_items ≡ (lists_after file before).left_items
  pub right_numbers : after.right_numbers ≡ (lists_after file before).right_numbers
  pub right_ends : after.right_ends ≡ (lists_after file before).right_ends
  pub right_items : after.right_items ≡ (lists_after file before).right_items
