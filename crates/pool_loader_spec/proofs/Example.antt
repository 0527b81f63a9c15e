-- Two small files pooled, computed: the answer and the seven lists; then one row for each way to refuse, with its byte place.
use mathlib.Core.Path.{◌≡◌, refl}
use Prim.Native.Nat.{ℕ, ◌+◌}
use mathlib.Core.List.{List, [], ◌∷◌, ◌++◌, flatten}
use lib.ListN.{replicate}
use Rattle.std.specs.Prelude.{Err, Ok}
use Rattle.lists.specs.Lists.{keep, memb, sum, range, upto, any, prefix}
use Rattle.sets.specs.Limits.{max_set_length}
use Rattle.sets.specs.declared.Side.{Side}
use Rattle.sets.specs.declared.Side.TheVariants.{Left, Right}
use Rattle.sets.specs.declared.Refusal.TheVariants.{Malformed, NumberUsed, ShortOutput, Overlong}
use Rattle.tag_file.specs.Format.{value_from, bytes_of, tag_bytes, mark}
use Rattle.tag_file.specs.Reading.{read_at, tags_at}
use Rattle.tag_file.specs.Records.{TagRecord, records_from, insert, insert_all, all_tags, items_of}
use Rattle.tag_file.specs.Repeats.{repeats_in}
use Rattle.tag_file.specs.Loading.{Lists, lists_of, file_fault, first_fault, fault_of, too_many, ends_from, room_for}
use Rattle.pool_loader_spec.specs.Pooling.{pooled, second_fault_of, first_second_fault, second_fault, first_overlong}
use Rattle.pool_loader_spec.specs.Pooling.{pooled_answer, pooled_lists}

-- a tag: eleven zero bytes and the one shown
tag : ℕ → List ℕ
tag n = 0 ∷ 0 ∷ 0 ∷ 0 ∷ 0 ∷ 0 ∷ 0 ∷ 0 ∷ 0 ∷ 0 ∷ 0 ∷ n ∷ []

-- the bytes of a record before its tags
head : Side → ℕ → ℕ → List ℕ
head side number count = mark side ++ (0 ∷ number ∷ count ∷ [])

-- left set 7 with tags 1, 2; right set 9 with tag 1; right set 5 with tag 3
first : List ℕ
first = head Left 7 2 ++ (tag 1 ++ tag 2) ++ (head Right 9 1 ++ tag 1) ++ (head Right 5 1 ++ tag 3)

-- left set 7 twice, with tags 8, 8 and without tags, which adds nothing, no repeat either, and is no fault; right set 6 with tag 4;
-- right set 9 with tags 2, 1, 2
second : List ℕ
second =
    (head Left 7 2 ++ (tag 8 ++ tag 8)) ++ head Left 7 0 ++ (head Right 6 1 ++ tag 4) ++ head Right 9 3
    ++ (tag 2 ++ (tag 1 ++ tag 2))

-- lists that are just long enough, but for one place more of items
lent : Lists
lent =
    lists_of (replicate 48 99) (99 ∷ []) (99 ∷ []) (99 ∷ 99 ∷ 99 ∷ []) (99 ∷ 99 ∷ 99 ∷ []) (99 ∷ 99 ∷ 99 ∷ [])
    (99 ∷ 99 ∷ 99 ∷ 99 ∷ 99 ∷ [])

-- one repeat, of right set 9 in the second file; its tag 1, read on both pads, is none
example_answer : pooled_answer first second lent
    ≡ Ok (record { left_sets = 1; right_sets = 3; left_entries = 2; right_entries = 4; tag_count = 4 }, record { left = 0; right = 1 })
unfolding first second lent head tag pooled_answer file_fault first_fault fault_of too_many second_fault first_second_fault second_fault_of
    first_overlong pooled room_for read_at tags_at records_from value_from insert insert_all all_tags items_of keep memb sum any prefix
    range ends_from flatten tag_bytes bytes_of repeats_in
example_answer = refl

-- right sets 9 and 5 of the first file, then 6 of the second; set 9 has tags 1 and 2, read one on each pad
example_lists : pooled_lists first second lent
    ≡ lists_of (tag 1 ++ (tag 2 ++ (tag 3 ++ tag 4))) (7 ∷ []) (2 ∷ []) (0 ∷ 1 ∷ 99 ∷ []) (9 ∷ 5 ∷ 6 ∷ []) (2 ∷ 3 ∷ 4 ∷ [])
    (0 ∷ 1 ∷ 2 ∷ 3 ∷ 99 ∷ [])
unfolding first second lent head tag pooled_answer file_fault first_fault fault_of too_many second_fault first_second_fault second_fault_of
    first_overlong pooled room_for read_at tags_at records_from value_from insert insert_all all_tags items_of keep memb sum any prefix
    range ends_from flatten tag_bytes bytes_of
example_lists = refl

-- ---- the ways to refuse

-- the second file is cut short in its second record, at byte place 17; the first file has 63 bytes
example_cut : pooled_answer first ((head Left 7 1 ++ tag 8) ++ head Right 6 1) lent ≡ Err (Malformed (63 + 17))
unfolding first lent head tag pooled_answer file_fault first_fault fault_of too_many second_fault first_second_fault second_fault_of
    pooled read_at tags_at records_from value_from insert insert_all all_tags keep memb sum any prefix
example_cut = refl

-- right set 9 twice in the second file, whether or not the first has it; a left set's number twice there is no fault
example_used : pooled_answer first (head Left 7 0 ++ (head Left 7 0 ++ (head Right 9 0 ++ head Right 9 0))) lent
    ≡ Err (NumberUsed (63 + 15))
unfolding first lent head tag pooled_answer file_fault first_fault fault_of too_many second_fault first_second_fault second_fault_of
    pooled read_at tags_at records_from value_from insert insert_all all_tags keep memb sum any prefix
example_used = refl

-- the first file's fault comes first, with its own place
example_first : pooled_answer (head Right 9 0 ++ head Right 9 0) (head Right 6 1) lent ≡ Err (NumberUsed 5)
unfolding lent head tag pooled_answer file_fault first_fault fault_of too_many read_at tags_at records_from value_from insert insert_all
    all_tags keep memb sum any prefix
example_first = refl

-- no room for the third right set
example_short : pooled_answer first second (lists_of (replicate 48 0) (0 ∷ []) (0 ∷ []) (0 ∷ 0 ∷ []) (0 ∷ 0 ∷ []) (0 ∷ 0 ∷ 0 ∷ [])
    (0 ∷ 0 ∷ 0 ∷ 0 ∷ [])) ≡ Err ShortOutput
unfolding first second lent head tag pooled_answer file_fault first_fault fault_of too_many second_fault first_second_fault second_fault_of
    pooled room_for read_at tags_at records_from value_from insert insert_all all_tags items_of keep memb sum any prefix range
    ends_from flatten tag_bytes bytes_of
example_short = refl

-- a right set of the greatest length in the first file: the same tags again pass, and one more is refused at that record of the
-- second file
full : List TagRecord
full = record { side = Right; number = 9; tags = upto max_set_length } ∷ []

example_full : first_overlong full 63 [] (record { side = Right; number = 9; tags = 254 ∷ 0 ∷ [] } ∷ []) ≡ Ok tt
unfolding full first_overlong range insert insert_all all_tags keep sum
example_full = refl

example_overlong :
    first_overlong full 63 []
    (record { side = Left; number = 9; tags = 5000 ∷ [] } ∷ record { side = Right; number = 9; tags = 0 ∷ max_set_length ∷ [] } ∷ [])
    ≡ Err (Overlong (63 + 17))
unfolding full first_overlong range insert insert_all all_tags keep sum
example_overlong = refl
