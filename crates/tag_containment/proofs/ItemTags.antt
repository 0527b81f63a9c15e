-- Containment of items is containment of tags: over the tag table of records, the items of one are contained in those of another
-- exactly when the one has a tag and all its tags are tags of the other. Document 01, "Tag file": "Item numbers follow the rising
-- order of distinct tags"; "repeats allowed and collapsed".
use mathlib.Core.Path.{◌≡◌, refl, sym, ap, ◌∙◌}
use Prim.Native.Nat.{ℕ, ◌<◌}
use mathlib.Core.List.{List, [], ◌∷◌}
use mathlib.Core.Bool.{true}
use borrow.Author.Tests.{lt-ltb, ltb-true}
use lib.Dec.{ltb}
use lib.ListN.{length, get_or}
use Rattle.lists.specs.Lists.{all, memb, subset, upto}
use Rattle.lists.proofs.Bools.{and_left, and_right, and_both, or_left, or_right, same_test}
use Rattle.lists.proofs.Membership.{Place, memb_append, memb_at, memb_place, memb-some}
use Rattle.lists.proofs.Filtering.{memb-keep, all_keep}
use Rattle.lists.proofs.Ranges.{memb-upto}
use Rattle.lists.proofs.Throughout.{subset_intro, subset_elim, all_at, all_weaken}
use Rattle.sets.specs.Collections.{contained}
use Rattle.sets.specs.declared.Side.{Side}
use Rattle.sets.specs.declared.Side.TheVariants.{Left}
use Rattle.sets.proofs.Containment.{contained_alike}
use Rattle.tag_file.specs.Records.{TagRecord, same_side, of_side, all_tags, tag_table, items_of}
use Rattle.tag_file.proofs.Tables.{memb-collapse}

-- ---- over any table that has the tags

module _ (table : List ℕ) where
  -- an item of tags is a place of the table that holds one of them
  item_tag_lem : (tags : List ℕ) (i : ℕ) → memb i (items_of table tags) ≡ true
      → (ltb i (length table) ≡ true) × (memb (get_or table i 0) tags ≡ true)
  unfolding items_of
  item_tag_lem tags i there =
      let both = sym (memb-keep (λ j. memb (get_or table j 0) tags) (upto (length table)) i) ∙ there in
      (sym (memb-upto (length table) i) ∙ and_left _ _ both, and_right (memb i (upto (length table))) _ both)

  tag_item : (tags : List ℕ) (i : ℕ) → i < length table → memb (get_or table i 0) tags ≡ true → memb i (items_of table tags) ≡ true
  unfolding items_of
  tag_item tags i within there =
      memb-keep (λ j. memb (get_or table j 0) tags) (upto (length table)) i
      ∙ and_both (memb-upto (length table) i ∙ lt-ltb _ _ within) there

  module _ (left right : List ℕ) (held : subset left table ≡ true) where
    -- where a tag of the left ones stands in the table is one of their items
    place : (tag : ℕ) → memb tag left ≡ true → Place tag table
    place tag there = memb_place tag table (subset_elim left table held tag there)

    item_there : (tag : ℕ) (there : memb tag left ≡ true) → memb (place tag there).at (items_of table left) ≡ true
    item_there tag there =
        let p = place tag there in
        tag_item left p.at p.below (ap (λ (t : ℕ). memb t left) p.here ∙ there)

    tags_if_items : subset (items_of table left) (items_of table right) ≡ true → subset left right ≡ true
    tags_if_items sub =
        subset_intro left right
        (λ tag there.
        let p = place tag there in
        ap (λ (t : ℕ). memb t right) (sym p.here)
        ∙ (item_tag_lem right p.at (subset_elim (items_of table left) (items_of table right) sub p.at (item_there tag there))).1)

    items_if_tags : subset left right ≡ true → subset (items_of table left) (items_of table right) ≡ true
    items_if_tags sub =
        subset_intro (items_of table left) (items_of table right)
        (λ i there.
        let both = item_tag_lem left i there in
        tag_item right i (ltb-true i (length table) both.0) (subset_elim left right sub (get_or table i 0) both.1))

    pub contained_tags : contained (items_of table left) (items_of table right) ≡ contained left right
    contained_tags =
        contained_alike (items_of table left) (items_of table right) left right
        (λ some. memb-some _ left (item_tag_lem left _ (memb_at (items_of table left) 0 0 some)).1)
        (λ some. memb-some _ (items_of table left) (item_there _ (memb_at left 0 0 some)))
        (same_test (subset (items_of table left) (items_of table right)) (subset left right) tags_if_items items_if_tags)

-- ---- over the table of records

-- what stands past the last record of a side
abbrev pub no_record : TagRecord
no_record = record { side = Left; number = 0; tags = [] }

-- the record at a place of a side
abbrev pub record_of : Side → List TagRecord → ℕ → TagRecord
record_of side rs k = get_or (of_side side rs) k no_record

-- the tags of each record are among those of all
tags_among : (rs : List TagRecord) → all (λ r. subset r.tags (all_tags rs)) rs ≡ true
unfolding all all_tags
tags_among [] = refl
tags_among (r ∷ rs) =
    and_both
    (subset_intro r.tags _
    (λ t there. memb_append t r.tags (all_tags rs) ∙ or_left (memb t r.tags) (memb t (all_tags rs)) there))
    (all_weaken (λ s. subset s.tags (all_tags rs)) (λ s. subset s.tags (all_tags (r ∷ rs))) rs
    (λ s held.
    subset_intro s.tags _
    (λ t there.
    memb_append t r.tags (all_tags rs)
    ∙ or_right (memb t r.tags) (memb t (all_tags rs)) (subset_elim s.tags (all_tags rs) held t there)))
    (tags_among rs))

-- the table has the tags of each record
pub tags_in_table : (rs : List TagRecord) → all (λ r. subset r.tags (tag_table rs)) rs ≡ true
tags_in_table rs =
    all_weaken (λ r. subset r.tags (all_tags rs)) (λ r. subset r.tags (tag_table rs)) rs
    (λ r held.
    subset_intro r.tags (tag_table rs)
    (λ t there. memb-collapse t (all_tags rs) ∙ subset_elim r.tags (all_tags rs) held t there))
    (tags_among rs)

-- for the record at a place of a side, and any tags
pub contained-records : (rs : List TagRecord) (side : Side) (k : ℕ) → k < length (of_side side rs) → (right : List ℕ)
    → contained (items_of (tag_table rs) (record_of side rs k).tags) (items_of (tag_table rs) right)
    ≡ contained (record_of side rs k).tags right
contained-records rs side k within right =
    contained_tags (tag_table rs) (record_of side rs k).tags right
    (all_at (λ r. subset r.tags (tag_table rs)) no_record (of_side side rs)
    (all_keep (λ r. subset r.tags (tag_table rs)) (λ r. same_side side r.side) rs (tags_in_table rs)) k within)
