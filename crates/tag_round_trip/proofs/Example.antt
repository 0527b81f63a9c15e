-- Document 01's example file of kitlist with its records the other way round, computed: it is accepted, and the file that is
-- written from what was loaded has the left set's record first and each tag once. One read of the first is a repeat, none of the
-- second.
use mathlib.Core.Path.{◌≡◌, refl}
use Prim.Native.Nat.{ℕ}
use mathlib.Core.List.{List, [], ◌∷◌, ◌++◌, flatten}
use Rattle.std.specs.Prelude.{Ok}
use Rattle.lists.specs.Lists.{keep, memb, sum, range, any, prefix}
use Rattle.sets.specs.Collections.{sets_from}
use Rattle.tag_file.specs.Format.{value_from, bytes_of, tag_bytes}
use Rattle.tag_file.specs.Reading.{read_at, tags_at}
use Rattle.tag_file.specs.Records.{records, records_from, insert, insert_all, all_tags, items_of}
use Rattle.tag_file.specs.Repeats.{repeats_in, repeat_totals, no_repeats}
use Rattle.tag_file.specs.Loading.{filled, file_fault, first_fault, fault_of, too_many, ends_from}
use Rattle.tag_writer_spec.specs.Writer.{records_of, file_bytes}

-- a tag: eleven zero bytes and the one shown
tag : ℕ → List ℕ
tag n = 0 ∷ 0 ∷ 0 ∷ 0 ∷ 0 ∷ 0 ∷ 0 ∷ 0 ∷ 0 ∷ 0 ∷ 0 ∷ n ∷ []

-- right set 9 with tags 2, 1, 1, then left set 7 with tags 1, 2
file : List ℕ
file =
    (0x53 ∷ 0x4B ∷ 0 ∷ 9 ∷ 3 ∷ []) ++ (tag 2 ++ (tag 1 ++ tag 1)) ++ (0x4B ∷ 0x54 ∷ 0 ∷ 7 ∷ 2 ∷ []) ++ (tag 1 ++ tag 2)

rewritten_file : List ℕ
rewritten_file = (0x4B ∷ 0x54 ∷ 0 ∷ 7 ∷ 2 ∷ []) ++ (tag 1 ++ tag 2) ++ (0x53 ∷ 0x4B ∷ 0 ∷ 9 ∷ 2 ∷ []) ++ (tag 1 ++ tag 2)

example_accepted : file_fault file ≡ Ok tt
unfolding file tag file_fault first_fault fault_of too_many read_at tags_at records_from value_from insert insert_all all_tags
    keep memb sum any prefix
example_accepted = refl

example_written : file_bytes (filled (records file)) ≡ rewritten_file
unfolding file tag rewritten_file read_at tags_at records_from value_from insert insert_all all_tags items_of
    keep memb range prefix ends_from flatten sets_from tag_bytes bytes_of records_of file_bytes
example_written = refl

-- tag 1 stands twice in right set 9
example_repeats : repeat_totals (records file) ≡ record { left = 0; right = 1 }
unfolding file tag read_at tags_at records_from value_from insert insert_all keep sum prefix repeats_in
example_repeats = refl

example_no_repeats : repeat_totals (records rewritten_file) ≡ no_repeats
unfolding rewritten_file tag read_at tags_at records_from value_from insert insert_all keep sum prefix repeats_in
example_no_repeats = refl
