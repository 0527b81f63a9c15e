-- The pooled load of two tag files: the records that they give together, the first fault of the pair, the answer, and the lent
-- lists at the end. Document 02, C-11. A right set is a stack, of one borrower; the files are those of two pads.
use Rattle.std.specs.Prelude.{ℕ, ◌+◌, ◌%◌, ◌≡◌, List, [], ◌∷◌, ◌++◌, map, Bool, not, ◌&&◌, eqb, ltb, length, Result, Err, Ok, ⊤}
use Rattle.lists.specs.Lists.{keep}
use Rattle.sets.specs.Limits.{max_set_length}
use Rattle.sets.specs.Refusals.{refuse_if, unless}
use Rattle.sets.specs.declared.Side.{Side}
use Rattle.sets.specs.declared.Side.TheVariants.{Left, Right}
use Rattle.sets.specs.declared.Refusal.TheVariants.{Malformed, NumberUsed, TooMany, ShortOutput, Overlong}
use Rattle.tag_file.specs.declared.Repeats.{Repeats}
use Rattle.tag_file.specs.Records.{TagRecord, total_length, records, same_side, of_side, all_tags, collapse}
use Rattle.tag_file.specs.Repeats.{repeats_of}
use Rattle.tag_file.specs.Loading.{number_used, too_many, file_fault, Lists, filled, room_for, totals_of, lists_by}
use Rattle.sets.specs.declared.Refusal.{Refusal}
use Rattle.tag_file.specs.declared.Loaded.{Loaded}

-- ---- the records of both files

-- whether two records are of the same set: the same side and number
abbrev pub same_set : TagRecord → TagRecord → Bool
same_set r s = same_side r.side s.side && eqb r.number s.number

-- a record with the tags of others of the same set behind its own: its set is the union
abbrev pub united_with : List TagRecord → TagRecord → TagRecord
united_with others r =
    record { side = r.side; number = r.number; tags = r.tags ++ all_tags (keep (same_set r) others) }

-- the right sets' records of the second file that the first has not
abbrev pub unmet : List TagRecord → List TagRecord → List TagRecord
unmet first second = keep (λ s. not (number_used first s)) (of_side Right second)

-- the records of the first file, each right set's united with the second file's of the same number, and then the second file's right
-- sets not yet met; left sets are those of the first file
unfoldable pub pooled : List TagRecord → List TagRecord → List TagRecord
pooled first second = map (united_with (of_side Right second)) first ++ unmet first second

-- ---- faults of the second file

-- a byte place of the second file: it counts on from the first file's length, as a number of 64 bits
abbrev pub place_after : ℕ → ℕ → ℕ
place_after base place = (base + place) % 18446744073709551616

-- the test of a whole record of the second file after those seen in it: a left set's has no fault; a right set's has 2 within its
-- file, and then 3 over the pooled records
unfoldable pub second_fault_of : List TagRecord → ℕ → List TagRecord → TagRecord → Result ⊤ Refusal
second_fault_of first base seen r =
    unless Err (refuse_if (same_side Right r.side && number_used seen r) (NumberUsed (place_after base (total_length seen))))
    (refuse_if (same_side Right r.side && too_many Right (pooled first (seen ++ (r ∷ []))))
    (TooMany (place_after base (total_length seen))))

-- the first fault of records of the second file that follow those seen, and else what the reading ended with
unfoldable pub first_second_fault : List TagRecord → ℕ → List TagRecord → List TagRecord → Result ⊤ Refusal → Result ⊤ Refusal
first_second_fault first base seen [] last = last
first_second_fault first base seen (r ∷ rs) last =
    unless Err (second_fault_of first base seen r) (first_second_fault first base (seen ++ (r ∷ [])) rs last)

-- the first fault of the second file: of its whole records, and else at the place where they end, unless the file ends there
unfoldable pub second_fault : List TagRecord → ℕ → List ℕ → Result ⊤ Refusal
second_fault first base file =
    first_second_fault first base [] (records file)
    (refuse_if (not (eqb (total_length (records file)) (length file))) (Malformed (place_after base (total_length (records file)))))

-- ---- sets that are too long

-- whether the pooled set of a record of the second file passes the greatest set length
abbrev pub is_overlong : List TagRecord → TagRecord → Bool
is_overlong first r =
    same_side Right r.side && ltb max_set_length (length (collapse (all_tags (keep (same_set r) first) ++ r.tags)))

-- the first record of the second file that does, among those that follow the ones seen
unfoldable pub first_overlong : List TagRecord → ℕ → List TagRecord → List TagRecord → Result ⊤ Refusal
first_overlong first base seen [] = Ok tt
first_overlong first base seen (r ∷ rs) =
    unless Err (refuse_if (is_overlong first r) (Overlong (place_after base (total_length seen))))
    (first_overlong first base (seen ++ (r ∷ [])) rs)

-- ---- repeats

-- the repeats of both files, each record by itself (C-15): a tag that both have is none, and the second file's left sets add none
abbrev pub pooled_repeats : List TagRecord → List TagRecord → Repeats
pooled_repeats first second =
    record { left = repeats_of Left first; right = repeats_of Right first + repeats_of Right second }

-- ---- the answer, and the lists

-- the pooled records of two files
abbrev pub pooled_records : List ℕ → List ℕ → List TagRecord
pooled_records first second = pooled (records first) (records second)

-- the answer: the first file's first fault; the second's; then 4 over the pooled records; then 10; else how much was filled, and the
-- repeats
unfoldable pub pooled_answer : List ℕ → List ℕ → Lists → Result (Loaded × Repeats) Refusal
pooled_answer first second lent =
    unless Err (file_fault first)
    (unless Err (second_fault (records first) (length first) second)
    (unless Err (refuse_if (not (room_for (filled (pooled_records first second)) lent)) ShortOutput)
    (unless Err (first_overlong (records first) (length first) [] (records second))
    (Ok ((totals_of (pooled_records first second)), (pooled_repeats (records first) (records second)))))))

-- the seven lent lists at the end
abbrev pub pooled_lists : List ℕ → List ℕ → Lists → Lists
pooled_lists first second lent = lists_by (pooled_answer first second lent) (filled (pooled_records first second)) lent

-- a pooled load of two files into seven lent lists: what is answered, and each list afterwards
pub record PooledCall (first second : List ℕ) (before after : Lists) (answer : Result (Loaded × Repeats) Refusal) : Type 0 where
  pub answered : answer ≡ pooled_answer first second before
  pub tags : after.tags ≡ (pooled_lists first second before).tags
  pub left_numbers : after.left_numbers ≡ (pooled_lists first second before).left_numbers
  pub left_ends : after.left_ends ≡ (pooled_lists first second before).left_ends
  pub left_items : after.left_items ≡ (pooled_lists first second before).left_items
  pub right_numbers : after.right_numbers ≡ (pooled_lists first second before).right_numbers
  pub right_ends : after.right_ends ≡ (pooled_lists first second before).right_ends
  pub right_items : after.right_items ≡ (pooled_lists first second before).right_items
