-- What the writer makes of a loaded file's lists: the rewritten records. And neither side has a fault, so that it writes them.
use mathlib.Core.Path.{◌≡◌, refl, sym, ap, ◌∙◌}
use Prim.Native.Nat.{ℕ, suc, ◌+◌, ◌≤◌}
use mathlib.Core.List.{List, [], ◌∷◌, ◌++◌, map, append_assoc, flatten}
use mathlib.Core.Bool.{Bool, true, ◌||◌}
use native.Mathlib.Omega.{arith}
use borrow.Author.Tests.{le-leb, leb-true}
use lib.Dec.{leb}
use lib.ListN.{length, length-append, length-map}
use Rattle.std.specs.Prelude.{None, Ok}
use Rattle.lists.specs.Lists.{all, memb, rising, subset}
use Rattle.lists.proofs.Bools.{and_both, and_left, and_right, or_left, or_right}
use Rattle.lists.proofs.Membership.{memb_append}
use Rattle.lists.proofs.Throughout.{subset_intro, all_weaken}
use Rattle.lists.proofs.Filtering.{all_keep, all_kept}
use Rattle.sets.specs.Limits.{max_sets, max_entries, max_set_length}
use Rattle.sets.specs.Collections.{between, sets_of, good_items, good_end, first_bad, first_bad_from}
use Rattle.sets.specs.Refusals.{no_bad_set}
use Rattle.sets.specs.declared.Side.{Side}
use Rattle.sets.specs.declared.Side.TheVariants.{Left, Right}
use Rattle.sets.proofs.Good.{not_bad}
use Rattle.tag_file.specs.Format.{tag_bytes}
use Rattle.tag_file.specs.Records.{TagRecord, same_side, of_side, collapse, all_tags, tag_table, items_of, entries_of, sets_of_side}
use Rattle.tag_file.specs.Loading.{ends_from, numbers_of, ends_of, flat_items, filled}
use Rattle.tag_file.proofs.Tables.{rising-collapse, memb-collapse}
use Rattle.tag_file.proofs.RecordLaws.{same_side_lem}
use Rattle.tag_file.proofs.ItemCount.{length-numbers_of, length-ends_of, length-flat_items}
use Rattle.tag_writer_spec.specs.Writer.{item_tags, numbered_test}
use Rattle.tag_writer_spec.proofs.Tests.{side_even}
use Rattle.tag_round_trip.specs.Rewritten.{side_records, records_of_lists, collapsed, collapsed_side, rewritten}
use Rattle.tag_round_trip.proofs.Decoding.{between_joined, sets_joined}
use Rattle.tag_round_trip.proofs.Items.{tags_of_items, items_good}
use Rattle.tag_round_trip.proofs.Sorted.{length-collapse}
use Rattle.tag_round_trip.proofs.Values.{tags_fit}

-- whether each record has no more distinct tags than the greatest set length
abbrev pub sets_few : List TagRecord → Bool
sets_few rs = all (λ r. leb (length (collapse r.tags)) max_set_length) rs

-- records that have no more tags than that are such
pub sets_few_lem : (rs : List TagRecord) → all (λ r. leb (length r.tags) max_set_length) rs ≡ true → sets_few rs ≡ true
sets_few_lem rs few =
    all_weaken (λ r. leb (length r.tags) max_set_length) (λ r. leb (length (collapse r.tags)) max_set_length) rs
    (λ r short.
    let most = length-collapse r.tags in
    let raw : length r.tags ≤ max_set_length = leb-true (length r.tags) max_set_length short in
    le-leb (length (collapse r.tags)) max_set_length (omega arith))
    few

-- every record's tags are in a table that has all tags
tags_within : (table : List ℕ) (rs : List TagRecord) → ((x : ℕ) → memb x (all_tags rs) ≡ true → memb x table ≡ true)
    → all (λ r. subset r.tags table) rs ≡ true
unfolding all all_tags
tags_within table [] h = refl
tags_within table (r ∷ rs) h =
    and_both (subset_intro r.tags table (λ x m. h x (split x ∙ or_left (memb x r.tags) (memb x (all_tags rs)) m)))
    (tags_within table rs (λ x m. h x (split x ∙ or_right (memb x r.tags) (memb x (all_tags rs)) m)))
  where
    split : (x : ℕ) → memb x (r.tags ++ all_tags rs) ≡ (memb x r.tags || memb x (all_tags rs))
    split x = memb_append x r.tags (all_tags rs)

tags_in_table : (rs : List TagRecord) → all (λ r. subset r.tags (tag_table rs)) rs ≡ true
tags_in_table rs = tags_within (tag_table rs) rs (λ x m. memb-collapse x (all_tags rs) ∙ m)

-- ---- the records that are written

module _ (side : Side) (table : List ℕ) (r : rising table ≡ true) where
  sides_records : tags_fit table ≡ true → (rs : List TagRecord) → all (λ r. same_side side r.side) rs ≡ true
      → all (λ r. subset r.tags table) rs ≡ true
      → side_records side (tag_bytes table) (map (λ r. r.number) rs) (map (λ r. items_of table r.tags) rs) ≡ map collapsed rs
  unfolding side_records all
  sides_records fit [] own sub = refl
  sides_records fit (s ∷ rs) own sub =
      let same = and_left (same_side side s.side) (all (λ r. same_side side r.side) rs) own in
      let e : side ≡ s.side = same_side_lem side s.side same in
      let t : item_tags (tag_bytes table) (items_of table s.tags) ≡ collapse s.tags =
      tags_of_items table s.tags r (and_left (subset s.tags table) (all (λ r. subset r.tags table) rs) sub) fit in
      let rest = sides_records fit rs (and_right (same_side side s.side) (all (λ r. same_side side r.side) rs) own)
      (and_right (subset s.tags table) (all (λ r. subset r.tags table) rs) sub) in
      cons_same e t rest
    where
      cons_same : {k : Side} {ts : List ℕ} {us vs : List TagRecord} → side ≡ k → ts ≡ collapse s.tags → us ≡ vs
          → ◌≡◌ {A = List TagRecord} (record { side = side; number = s.number; tags = ts } ∷ us)
          (record { side = k; number = s.number; tags = collapse s.tags } ∷ vs)
      cons_same e t rest = rw (← e, t, rest)

  -- ---- the sets are good

  sets_good : (rs : List TagRecord) → all (λ r. subset r.tags table) rs ≡ true
      → sets_few rs ≡ true
      → all (good_items (length table)) (map (λ r. items_of table r.tags) rs) ≡ true
  unfolding all
  sets_good [] sub few = refl
  sets_good (s ∷ rs) sub few =
      and_both
      (items_good table s.tags r (and_left (subset s.tags table) (all (λ r. subset r.tags table) rs) sub)
      (leb-true _ _ (and_left (leb (length (collapse s.tags)) max_set_length) (sets_few rs) few)))
      (sets_good rs (and_right (subset s.tags table) (all (λ r. subset r.tags table) rs) sub)
      (and_right (leb (length (collapse s.tags)) max_set_length) (sets_few rs) few))

-- good sets that were joined, within the limits, have no bad one among them
good_joined : (T k start : ℕ) (before : List ℕ) (sets : List (List ℕ)) → length before ≡ start → k + length sets ≤ max_sets
    → start + length (flatten sets) ≤ max_entries → all (good_items T) sets ≡ true
    → first_bad_from T k start (ends_from start sets) (before ++ flatten sets) ≡ None
unfolding first_bad_from ends_from flatten all
good_joined T k start before [] e places entries good = refl
good_joined T k start before (set ∷ sets) e places entries good =
    let items = before ++ (set ++ flatten sets) in
    let long : length items ≡ start + (length set + length (flatten sets)) = rw (length-append, length-append set (flatten sets), e) in
    let all-long : length (set ++ flatten sets) ≡ length set + length (flatten sets) = length-append set (flatten sets) in
    let next : length (before ++ set) ≡ start + length set = rw (length-append, e) in
    let end-good : good_end start (start + length set) items ≡ true =
    and_both (le-leb start (start + length set) (omega arith))
    (and_both (le-leb (start + length set) max_entries (omega arith))
    (le-leb (start + length set) (length items) (omega arith))) in
    let set-good : good_items T (between start (start + length set) items) ≡ true =
    ap (good_items T) (between_joined before set (flatten sets) start e) ∙ and_left (good_items T set) (all (good_items T) sets) good in
    let here = not_bad T k start (start + length set) items (omega arith) (and_both end-good set-good) in
    let again = good_joined T (suc k) (start + length set) (before ++ set) sets next (omega arith) (omega arith)
    (and_right (good_items T set) (all (good_items T) sets) good) in
    rw here (rw (append_assoc before set (flatten sets)) at again)

module _ (rs : List TagRecord) where
  own_tags : (side : Side) → all (λ r. subset r.tags (tag_table rs)) (of_side side rs) ≡ true
  own_tags side = all_keep (λ r. subset r.tags (tag_table rs)) (λ r. same_side side r.side) rs (tags_in_table rs)

  -- the sets of a side, from its ends and items
  side_sets_lem : (side : Side) → sets_of (ends_of side rs) (flat_items side rs) ≡ sets_of_side side (tag_table rs) rs
  side_sets_lem side = sets_joined (sets_of_side side (tag_table rs) rs)

  -- no set of a side is bad, within the limits
  module _ (side : Side) (few : sets_few rs ≡ true) (places : length (of_side side rs) ≤ max_sets)
      (entries : entries_of side rs ≤ max_entries) where
    pub sets_unbad : first_bad (length (tag_table rs)) (ends_of side rs) (flat_items side rs) ≡ None
    sets_unbad =
        let table = tag_table rs in
        let sets = sets_of_side side table rs in
        let n : length sets ≡ length (of_side side rs) = length-map (of_side side rs) (λ r. items_of table r.tags) in
        let m : length (flatten sets) ≡ entries_of side rs = length-flat_items side rs in
        good_joined (length table) 0 0 [] sets refl (omega arith) (omega arith)
        (sets_good side table (rising-collapse (all_tags rs)) (of_side side rs) (own_tags side)
        (all_keep (λ r. leb (length (collapse r.tags)) max_set_length) (λ r. same_side side r.side) rs few))

    pub side_good : numbered_test (length (tag_table rs)) side (numbers_of side rs) (ends_of side rs) (flat_items side rs) ≡ Ok tt
    side_good =
        sym (side_even (length (tag_table rs)) side (numbers_of side rs) (ends_of side rs) (flat_items side rs)
        (ap (no_bad_set side) sets_unbad) (length-numbers_of side rs ∙ sym (length-ends_of side rs)))

  -- the same of records that have no more tags than the greatest set length
  pub side_unbad : (side : Side) → all (λ r. leb (length r.tags) max_set_length) rs ≡ true
      → length (of_side side rs) ≤ max_sets → entries_of side rs ≤ max_entries
      → first_bad (length (tag_table rs)) (ends_of side rs) (flat_items side rs) ≡ None
  side_unbad side few places entries = sets_unbad side (sets_few_lem rs few) places entries

  pub lists_records : tags_fit (tag_table rs) ≡ true → records_of_lists (filled rs) ≡ rewritten rs
  unfolding rewritten
  lists_records fit = rw (of_side_lem Left, of_side_lem Right)
    where
      of_side_lem : (side : Side)
          → side_records side (tag_bytes (tag_table rs)) (numbers_of side rs) (sets_of (ends_of side rs) (flat_items side rs))
          ≡ collapsed_side side rs
      of_side_lem side =
          ap (side_records side (tag_bytes (tag_table rs)) (numbers_of side rs)) (side_sets_lem side)
          ∙ sides_records side (tag_table rs) (rising-collapse (all_tags rs)) fit (of_side side rs)
          (all_kept (λ r. same_side side r.side) rs) (own_tags side)
