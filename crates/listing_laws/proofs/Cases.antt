-- The text of a file of bytes without the causes that can't arise: 4, 5, 6 and 8. What a load fills is good sets with T within
-- its limit, the rank table is a permutation, and the greatest allowance is above kits x stacks. So a file is refused by its
-- length (7), by a record at fault (1, 2, 3), by the work list (7: n above 1,020) or by the pair list (9: above 8,192 pairs), and
-- else the counts and the pairs are those of its records' sets, and the repeats those of its records.
use Prim.Native.Nat.{ℕ, ◌+◌, ◌*◌, ◌-◌, ◌<◌, ◌≤◌}
use mathlib.Core.Path.{◌≡◌, refl, sym, ap, ap₂, subst, ◌∙◌}
use mathlib.Core.List.{List, ◌++◌}
use mathlib.Core.Bool.{Bool, true, false, cond}
use native.Mathlib.Omega.{arith}
use borrow.Author.Tests.{ltb-true, ltb-false, lt-ltb, le-ltb}
use lib.Dec.{ltb}
use lib.ListN.{length, get_or, length-map}
use Rattle.std.specs.Prelude.{Result, Err, Ok, ⊤}
use Rattle.lists.specs.Lists.{one}
use Rattle.lists.proofs.Bools.{same_test}
use Rattle.sets.specs.Limits.{max_sets, full_words}
use Rattle.sets.specs.Refusals.{unless}
use Rattle.sets.specs.declared.Side.{Side}
use Rattle.sets.specs.declared.Side.TheVariants.{Left, Right}
use Rattle.sets.specs.declared.Refusal.TheVariants.{ShortWork, ShortPairs}
use Rattle.inputs.specs.Input.{Input, left_sets, right_sets}
use Rattle.inputs.specs.Tests.{words_needed}
use Rattle.inputs.proofs.TestLaws.{BothGood, good_sets, work_short}
use Rattle.item_order_spec.specs.Order.{rank_table}
use Rattle.item_order_spec.proofs.Ranks.{ranks_permutation}
use Rattle.join_spec.specs.declared.Rule.TheVariants.{Merge}
use Rattle.join_spec.specs.PairList.{pair_list, pair_count}
use Rattle.join_spec.specs.Query.{Query, query_of}
use Rattle.join_spec.specs.Counting.{is_check, checks_of, counts_of}
use Rattle.join_spec.specs.Answer.{join_tests, walk_answer, join_answer}
use Rattle.join_spec.proofs.Demand.{total_small}
use Rattle.join_spec.proofs.GoodSettings.{GoodSettings, settings_good}
use Rattle.join_spec.proofs.Accepted.{answer_tested, answer_refused}
use Rattle.join_spec.proofs.PairListLaws.{pair_occurs, pair_occurs_lem}
use Rattle.tag_file.specs.Records.{TagRecord, records, of_side, tag_table, items_of, sets_of_side}
use Rattle.tag_file.specs.declared.Repeats.{Repeats}
use Rattle.tag_file.specs.Repeats.{repeat_totals}
use Rattle.tag_file.specs.Loading.{file_fault, numbers_of}
use Rattle.tag_round_trip.proofs.Decoding.{sets_joined}
use Rattle.tag_round_trip.proofs.Refilled.{side_unbad}
use Rattle.tag_round_trip.proofs.FileRecords.{file_few}
use Rattle.tag_containment.proofs.LoadedPairs.{tags_contained, sets_tags}
use Rattle.text.specs.Lines.{refusal_line, counts_line, repeats_line, pair_lines}
use Rattle.text.specs.answer_text.AnswerText.{answer_text}
use Rattle.join_text.specs.JoinText.{work_words, pair_places, program_room, program_settings, join_text}
use Rattle.listing_spec.specs.Listing.{records_input, records_text, length_test, listing}
use Rattle.listing_spec.proofs.LoadRoom.{fault_free}
use Rattle.listing_laws.proofs.Sizes.{records_size, words_records}
use Rattle.join_spec.specs.declared.Counts.{Counts}
use Rattle.sets.specs.declared.Refusal.{Refusal}

-- the sets of a side's records, by place
abbrev pub side_sets : Side → List TagRecord → List (List ℕ)
side_sets side rs = sets_of_side side (tag_table rs) rs

-- the walk over them: limit 2, Merge, ranks by rising frequency
abbrev pub query_with : ℕ → List (List ℕ) → List (List ℕ) → Query
query_with T lefts rights =
    record { T = T; ranks = rank_table false T lefts rights; limit = 2; rule = Merge; lefts = lefts; rights = rights }

abbrev pub records_query : List TagRecord → Query
records_query rs = query_with (length (tag_table rs)) (side_sets Left rs) (side_sets Right rs)

-- the text of records without a fault
abbrev pub plain_text : List TagRecord → List ℕ
plain_text rs =
    cond (ltb 1020 (records_size rs)) (refusal_line ShortWork)
    (cond (ltb 8192 (pair_count (side_sets Left rs) (side_sets Right rs))) (refusal_line ShortPairs)
    (counts_line (counts_of (records_query rs))
    ++ (repeats_line (repeat_totals rs)
    ++ pair_lines (numbers_of Left rs) (numbers_of Right rs) (pair_list (side_sets Left rs) (side_sets Right rs)))))

-- the sets of the records' input
lefts_are : (rs : List TagRecord) → left_sets (records_input rs) ≡ side_sets Left rs
lefts_are rs = sets_joined (side_sets Left rs)

rights_are : (rs : List TagRecord) → right_sets (records_input rs) ≡ side_sets Right rs
rights_are rs = sets_joined (side_sets Right rs)

query_is : (rs : List TagRecord) → query_of (records_input rs) (program_settings (records_input rs)) ≡ records_query rs
query_is rs = ap₂ (query_with (length (tag_table rs))) (lefts_are rs) (rights_are rs)

-- the work list and the pair list suffice for these
work_size : (n : ℕ) → ltb work_words (16 * n + 64) ≡ ltb 1020 n
work_size n =
    same_test (ltb work_words (16 * n + 64)) (ltb 1020 n)
    (λ e. let h = ltb-true work_words (16 * n + 64) e in lt-ltb 1020 n (omega arith))
    (λ e. let h = ltb-true 1020 n e in lt-ltb work_words (16 * n + 64) (omega arith))

pair_size : (n : ℕ) → ltb pair_places (2 * n) ≡ ltb 8192 n
pair_size n =
    same_test (ltb pair_places (2 * n)) (ltb 8192 n)
    (λ e. let h = ltb-true pair_places (2 * n) e in lt-ltb 8192 n (omega arith))
    (λ e. let h = ltb-true 8192 n e in lt-ltb pair_places (2 * n) (omega arith))

-- an answer over one of two
text_either : (repeats : Repeats) (ln rn pairs : List ℕ) (b : Bool) (x y : Result Counts Refusal)
    → answer_text repeats ln rn pairs (cond b x y) ≡ cond b (answer_text repeats ln rn pairs x) (answer_text repeats ln rn pairs y)
text_either repeats ln rn pairs true x y = refl
text_either repeats ln rn pairs false x y = refl

module _ (file : List ℕ) (low : (i : ℕ) → get_or file i 0 < 256) (clear : file_fault file ≡ Ok tt) where
  abbrev rs : List TagRecord
  rs = records file

  abbrev input : Input
  input = records_input rs

  -- no 5
  good : BothGood input
  good =
      let free = fault_free file clear in
      record {
        left = side_unbad rs Left (file_few file low) (free.places Left) (free.entries Left);
        right = side_unbad rs Right (file_few file low) (free.places Right) (free.entries Right);
      }

  -- no 6
  settings : GoodSettings input.T 2 (program_settings input).ranks
  settings =
      record {
        few_items = (fault_free file clear).tags;
        limit_above = λ e. omega (arith, e);
        limit_within = omega arith;
        permutation = ranks_permutation false input.T (left_sets input) (right_sets input);
      }

  -- no 8
  few_checks : checks_of (records_query rs) ≤ full_words - 1
  few_checks =
      let free = fault_free file clear in
      let few : (side : Side) → length (side_sets side rs) ≤ max_sets =
      λ side. subst (λ (n : ℕ). n ≤ max_sets) (sym (length-map (of_side side rs) (λ r. items_of (tag_table rs) r.tags))) (free.places side) in
      omega (arith, total_small is_check (records_query rs) (few Left) (few Right))

  walked : walk_answer (records_query rs) (full_words - 1) pair_places
      ≡ cond (ltb 8192 (pair_count (side_sets Left rs) (side_sets Right rs))) (Err ShortPairs) (Ok (counts_of (records_query rs)))
  unfolding walk_answer
  walked =
      rw (
        le-ltb (full_words - 1) (checks_of (records_query rs)) few_checks,
        pair_size (pair_count (side_sets Left rs) (side_sets Right rs)),
      )

  answered : (b : Bool) → ltb work_words (words_needed input) ≡ b
      → join_answer input (program_settings input) program_room
      ≡ cond b (Err ShortWork) (walk_answer (records_query rs) (full_words - 1) pair_places)
  unfolding join_tests
  answered true short =
      answer_refused input (program_settings input) program_room
      (rw (settings_good input.T 2 (program_settings input).ranks settings, good_sets input good)
      (sym (work_short input work_words (ltb-true work_words (words_needed input) short))))
  answered false enough =
      answer_tested input (program_settings input) program_room
      (record { settings = settings; good = good; work = ltb-false work_words (words_needed input) enough })
      ∙ ap (λ (q : Query). walk_answer q (full_words - 1) pair_places) (query_is rs)

  pub records_text_lem : records_text rs ≡ plain_text rs
  unfolding join_text
  records_text_lem =
      let repeats = repeat_totals rs in
      let ln = numbers_of Left rs in
      let rn = numbers_of Right rs in
      let pairs = pair_list (side_sets Left rs) (side_sets Right rs) in
      ap₂ (answer_text repeats ln rn) (ap₂ pair_list (lefts_are rs) (rights_are rs))
      (answered (ltb 1020 (records_size rs)) (ap (ltb work_words) (words_records rs) ∙ work_size (records_size rs))
      ∙ ap (cond (ltb 1020 (records_size rs)) (Err ShortWork)) walked)
      ∙ text_either repeats ln rn pairs (ltb 1020 (records_size rs)) _ _
      ∙ ap (cond (ltb 1020 (records_size rs)) (refusal_line ShortWork))
      (text_either repeats ln rn pairs (ltb 8192 (pair_count (side_sets Left rs) (side_sets Right rs))) _ _)

-- the text of a file of bytes
pub listing_cases : (file : List ℕ) → ((i : ℕ) → get_or file i 0 < 256)
    → listing file ≡ unless refusal_line (length_test file) (unless refusal_line (file_fault file) (plain_text (records file)))
unfolding listing
listing_cases file low = ap (unless refusal_line (length_test file)) (by_fault (file_fault file) refl)
  where
    by_fault : (t : Result ⊤ Refusal) → file_fault file ≡ t
        → unless refusal_line t (records_text (records file)) ≡ unless refusal_line t (plain_text (records file))
    by_fault (Ok _) clear = records_text_lem file low clear
    by_fault (Err why) fault = refl

-- each pair of records is listed once where the left one has a tag and each of its tags is a tag of the right one, else not at all
pub listed_pairs : (rs : List TagRecord) (l r : ℕ)
    → pair_occurs l r (pair_list (side_sets Left rs) (side_sets Right rs)) ≡ one (tags_contained rs l r)
listed_pairs rs l r =
    pair_occurs_lem l r (side_sets Left rs) (side_sets Right rs)
    ∙ ap one (sets_tags rs l r (side_sets Left rs) (side_sets Right rs) refl refl)
