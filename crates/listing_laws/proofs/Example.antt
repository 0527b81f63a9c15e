-- Document 01's example of the program, computed: the whole text of its file, with document 02's line of repeats.
use mathlib.Core.Path.{◌≡◌, refl}
use Prim.Native.Nat.{ℕ}
use mathlib.Core.List.{List, [], ◌∷◌, ◌++◌, flatten}
use Rattle.lists.specs.Lists.{all, any, count, sum, keep, memb, range, rising, rising_after, distinct, prefix}
use Rattle.sets.specs.Collections.{sets_from, contained, first_bad_from, bad_set, last_end}
use Rattle.sets.specs.Ordered.{ordered, is_permutation}
use Rattle.sets.specs.Signatures.{position, signature_from}
use Rattle.inputs.specs.Tests.{sets_test, words_needed, work_test}
use Rattle.item_order_spec.specs.Order.{rank_table}
use Rattle.join_spec.specs.PairList.{pairs_from, row_from}
use Rattle.join_spec.specs.Node.{seen, goes_on, goes_on_at}
use Rattle.join_spec.specs.Walk.{ending, ending_from, is_candidate, goes, ending_in, outcome}
use Rattle.join_spec.specs.Counting.{total}
use Rattle.join_spec.specs.Answer.{bad_settings, join_tests, walk_answer, join_answer}
use Rattle.tag_file.specs.Format.{value_from, bytes_of, tag_bytes}
use Rattle.tag_file.specs.Reading.{read_at, tags_at}
use Rattle.tag_file.specs.Records.{records_from, insert, insert_all, all_tags, items_of}
use Rattle.tag_file.specs.Repeats.{repeats_in}
use Rattle.tag_file.specs.Loading.{file_fault, first_fault, fault_of, too_many, ends_from}
use Rattle.text.specs.Lines.{ascii, decimal_from, decimal, refused_line, counts_line, repeats_line, pair_line, pair_lines}
use Rattle.join_text.specs.JoinText.{join_text}
use Rattle.listing_spec.specs.Listing.{listing}

-- a tag: eleven zero bytes and the one shown
abbrev tag : ℕ → List ℕ
tag n = 0 ∷ 0 ∷ 0 ∷ 0 ∷ 0 ∷ 0 ∷ 0 ∷ 0 ∷ 0 ∷ 0 ∷ 0 ∷ n ∷ []

-- left set 7 with tags 1, 2, then right set 9 with tags 2, 1, 1
abbrev file : List ℕ
file = (0x4B ∷ 0x54 ∷ 0 ∷ 7 ∷ 2 ∷ []) ++ (tag 1 ++ tag 2) ++ (0x53 ∷ 0x4B ∷ 0 ∷ 9 ∷ 3 ∷ []) ++ (tag 2 ++ (tag 1 ++ tag 1))

pub example_listing : listing file ≡ ascii "pairs 1 path 1 confirmed 0 checks 0 dropped 0 false 0\nrepeats 0 1\n7 9\n"
unfolding listing join_text join_answer join_tests walk_answer bad_settings sets_test words_needed work_test rank_table pairs_from row_from
    seen goes_on goes_on_at ending ending_from is_candidate goes ending_in outcome total is_permutation ordered position signature_from
    sets_from contained first_bad_from bad_set last_end file_fault first_fault fault_of too_many read_at tags_at records_from value_from
    bytes_of tag_bytes insert insert_all all_tags items_of ends_from flatten all any count sum keep memb range rising rising_after distinct prefix
    repeats_in decimal_from decimal refused_line counts_line repeats_line pair_line pair_lines
example_listing = refl

-- the same file one byte short is refused at its second record
pub example_cut : listing ((0x4B ∷ 0x54 ∷ 0 ∷ 7 ∷ 1 ∷ []) ++ tag 1 ++ (0x53 ∷ 0x4B ∷ 0 ∷ 9 ∷ [])) ≡ ascii "refused 1 17\n"
unfolding listing file_fault first_fault fault_of too_many read_at tags_at records_from value_from insert insert_all all_tags
    any count sum keep memb range prefix decimal_from decimal refused_line
example_cut = refl
