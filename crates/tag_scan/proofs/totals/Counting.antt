-- One more record at the end of those seen: the records of a side, the tags, the counts and the limits.
use mathlib.Core.Path.{◌≡◌, refl, sym, ap, ◌∙◌}
use mathlib.Core.List.{List, [], ◌∷◌, ◌++◌, append-nil, append_assoc}
use mathlib.Core.Bool.{true, false, ◌||◌}
use Prim.Native.Nat.{ℕ, ◌+◌}
use native.Mathlib.Nat.{add-zero}
use borrow.Author.Tests.{ltb-false}
use lib.Dec.{ltb}
use lib.ListN.{length, length-append}
use Rattle.lists.specs.Lists.{sum}
use Rattle.lists.proofs.Bools.{or_left_false, or_right_false}
use Rattle.lists.proofs.Summing.{sum_append}
use Rattle.sets.specs.Limits.{max_items, max_sets, max_entries}
use Rattle.sets.specs.declared.Side.{Side}
use Rattle.sets.specs.declared.Side.TheVariants.{Left, Right}
use Rattle.tag_file.specs.declared.Loaded.{Loaded}
use Rattle.tag_file.specs.Records.{TagRecord, same_side, of_side, insert_all, collapse, all_tags, tag_table, entries_of}
use Rattle.tag_file.specs.Loading.{too_many, totals_of}
use Rattle.tag_file.specs.Repeats.{repeats_in, repeat_totals}
use Rattle.tag_file.proofs.Tables.{insert_all_append}
use Rattle.tag_file.proofs.RepeatLaws.{of_side_same, of_side_other, repeats_same, repeats_other}
use Rattle.tag_scan.specs.totals.Totals.{grown_by, is_over, Limited, repeated_by}

all_tags_last : (rs : List TagRecord) (r : TagRecord) → all_tags (rs ++ (r ∷ [])) ≡ all_tags rs ++ r.tags
unfolding all_tags
all_tags_last [] r = append-nil r.tags
all_tags_last (s ∷ rs) r =
    ap (λ (l : List ℕ). s.tags ++ l) (all_tags_last rs r) ∙ sym (append_assoc s.tags (all_tags rs) r.tags)

pub tag_table_last : (rs : List TagRecord) (r : TagRecord) → tag_table (rs ++ (r ∷ [])) ≡ insert_all (tag_table rs) r.tags
tag_table_last rs r = ap (insert_all []) (all_tags_last rs r) ∙ insert_all_append [] (all_tags rs) r.tags

module _ (side : Side) (rs : List TagRecord) (r : TagRecord) where
  sets_same : same_side side r.side ≡ true → length (of_side side (rs ++ (r ∷ []))) ≡ length (of_side side rs) + 1
  sets_same e = ap length (of_side_same side rs r e) ∙ length-append (of_side side rs) (r ∷ [])

  entries_same : same_side side r.side ≡ true
      → entries_of side (rs ++ (r ∷ [])) ≡ entries_of side rs + length (collapse r.tags)
  unfolding sum
  entries_same e =
      ap (sum (λ r. length (collapse r.tags))) (of_side_same side rs r e)
      ∙ sum_append (λ (r : TagRecord). length (collapse r.tags)) (of_side side rs) (r ∷ [])
      ∙ ap (λ (k : ℕ). entries_of side rs + k) (add-zero (length (collapse r.tags)))

-- the counts grow by the record's
pub grown_counts : (rs : List TagRecord) (r : TagRecord) (tagCount distinct : ℕ)
    → tagCount ≡ length (tag_table (rs ++ (r ∷ []))) → distinct ≡ length (collapse r.tags)
    → grown_by (totals_of rs) r.side tagCount distinct ≡ totals_of (rs ++ (r ∷ []))
grown_counts rs r tagCount distinct et ef = by_side r.side refl
  where
    by_side : (s : Side) → r.side ≡ s → grown_by (totals_of rs) s tagCount distinct ≡ totals_of (rs ++ (r ∷ []))
    by_side Left e =
        rw (
          sets_same Left rs r (ap (same_side Left) e),
          entries_same Left rs r (ap (same_side Left) e),
          of_side_other Right rs r (ap (same_side Right) e),
          et,
          ef,
        )
    by_side Right e =
        rw (
          sets_same Right rs r (ap (same_side Right) e),
          entries_same Right rs r (ap (same_side Right) e),
          of_side_other Left rs r (ap (same_side Left) e),
          et,
          ef,
        )

-- and the repeats by its own
pub grown_repeats : (rs : List TagRecord) (r : TagRecord) (more : ℕ) → more ≡ repeats_in r.tags
    → repeated_by (repeat_totals rs) r.side more ≡ repeat_totals (rs ++ (r ∷ []))
grown_repeats rs r more em = by_side r.side refl
  where
    by_side : (s : Side) → r.side ≡ s → repeated_by (repeat_totals rs) s more ≡ repeat_totals (rs ++ (r ∷ []))
    by_side Left e =
        rw (repeats_same Left rs r (ap (same_side Left) e), repeats_other Right rs r (ap (same_side Right) e), em)
    by_side Right e =
        rw (repeats_same Right rs r (ap (same_side Right) e), repeats_other Left rs r (ap (same_side Left) e), em)

pub grown_tags : (t : Loaded) (side : Side) (tagCount distinct : ℕ) → (grown_by t side tagCount distinct).tag_count ≡ tagCount
grown_tags t Left tagCount distinct = refl
grown_tags t Right tagCount distinct = refl

pub over_too_many : (side : Side) (rs : List TagRecord) → is_over (totals_of rs) side ≡ too_many side rs
unfolding too_many
over_too_many Left rs = refl
over_too_many Right rs = refl

-- within the limits with one more record, where it passes none
pub limited_grown : (t : Loaded) (side : Side) (tagCount distinct : ℕ) → Limited t
    → is_over (grown_by t side tagCount distinct) side ≡ false → Limited (grown_by t side tagCount distinct)
limited_grown t Left tagCount distinct l f =
    let a = ltb max_sets (t.left_sets + 1) in
    let b = ltb max_entries (t.left_entries + distinct) in
    let d = ltb max_items tagCount in
    let later = or_right_false a (b || d) f in
    record {
      left_sets = ltb-false max_sets (t.left_sets + 1) (or_left_false a (b || d) f);
      right_sets = l.right_sets;
      left_entries = ltb-false max_entries (t.left_entries + distinct) (or_left_false b d later);
      right_entries = l.right_entries;
      tags = ltb-false max_items tagCount (or_right_false b d later);
    }
limited_grown t Right tagCount distinct l f =
    let a = ltb max_sets (t.right_sets + 1) in
    let b = ltb max_entries (t.right_entries + distinct) in
    let d = ltb max_items tagCount in
    let later = or_right_false a (b || d) f in
    record {
      left_sets = l.left_sets;
      right_sets = ltb-false max_sets (t.right_sets + 1) (or_left_false a (b || d) f);
      left_entries = l.left_entries;
      right_entries = ltb-false max_entries (t.right_entries + distinct) (or_left_false b d later);
      tags = ltb-false max_items tagCount (or_right_false b d later);
    }
