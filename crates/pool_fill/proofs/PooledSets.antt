-- The right sets of the pooled records of two files: their items and tags, and the length that a slot's word tells.
use mathlib.Core.Path.{◌≡◌, sym, ap, ◌∙◌}
use mathlib.Core.List.{List, [], ◌∷◌, ◌++◌, map, map-append, map-map, append_assoc}
use mathlib.Core.Bool.{Bool, true, false, not, cond}
use Prim.Native.Nat.{ℕ, ◌+◌, ◌-◌, ◌<◌, ◌≤◌}
use native.Mathlib.Omega.{arith}
use borrow.Author.Tests.{lt-ltb, le-ltb}
use lib.ListN.{length}
use Rattle.lists.specs.Lists.{keep, memb, rising}
use Rattle.lists.proofs.Bools.{by_test, or_left, or_right}
use Rattle.lists.proofs.Membership.{memb_append}
use Rattle.lists.proofs.Summing.{sum_append}
use Rattle.sets.specs.declared.Side.TheVariants.{Right}
use Rattle.tag_file.specs.Format.{record_length}
use Rattle.tag_file.specs.Records.{TagRecord, total_length, same_side, of_side, collapse, all_tags, items_of, sets_of_side}
use Rattle.tag_file.specs.Loading.{number_used}
use Rattle.tag_file.proofs.ItemCount.{item_count}
use Rattle.pool_loader_spec.specs.Pooling.{same_set, united_with, unmet, pooled}
use Rattle.pool_loader_spec.proofs.OneMore.{used_alike, used_keep, used_behind, memb_around}
use Rattle.pool_loader_spec.proofs.Sides.{right_pooled}
use Rattle.pool_scan.specs.right_slots.Slots.{NumbersOnce, pooled_mark, slot_word}
use Rattle.pool_fill.specs.own_sets.Own.{length_by}
use Rattle.pool_fill.proofs.Unions.{keep_around, part_of, part_alone}

-- whether a record's set is not among records
abbrev pub is_new : List TagRecord → TagRecord → Bool
is_new first s = not (number_used first s)

-- ---- the right sets of the pooled records

module _ (first second : List TagRecord) where
  pub pooled-sets : (table : List ℕ) → sets_of_side Right table (pooled first second)
      ≡ map (part_of table (of_side Right second)) (of_side Right first)
      ++ map (λ r. items_of table r.tags) (keep (is_new first) (of_side Right second))
  pooled-sets table =
      let united = map (united_with (of_side Right second)) (of_side Right first) in
      let items_in : TagRecord → List ℕ = λ r. items_of table r.tags in
      ap (map items_in) (right_pooled first second)
      ∙ map-append items_in united (keep (is_new first) (of_side Right second))
      ∙ ap (λ (l : List (List ℕ)). l ++ map items_in (keep (is_new first) (of_side Right second)))
      (map-map items_in (united_with (of_side Right second)) (of_side Right first))

-- ---- tags

module _ (first second : List TagRecord) where
  -- the tags of a set of the first file, with those of the second
  pub united_held : (before : List TagRecord) (r : TagRecord) (after : List TagRecord) → first ≡ before ++ (r ∷ after)
      → (y : ℕ) → memb y (united_with (of_side Right second) r).tags ≡ true → memb y (all_tags (pooled first second)) ≡ true
  unfolding pooled
  united_held before r after e y m =
      let f = united_with (of_side Right second) in
      let apart : map f first ++ unmet first second ≡ map f before ++ (f r ∷ (map f after ++ unmet first second)) =
      ap (λ (l : List TagRecord). map f l ++ unmet first second) e
      ∙ ap (λ (l : List TagRecord). l ++ unmet first second) (map-append f before (r ∷ after))
      ∙ append_assoc (map f before) (f r ∷ map f after) (unmet first second) in
      ap (λ (l : List TagRecord). memb y (all_tags l)) apart
      ∙ memb_around (map f before) (f r) (map f after ++ unmet first second) y m

  -- the tags of a set of the second file that the first has not
  pub new_held : (seen : List TagRecord) (s : TagRecord) (later : List TagRecord)
      → of_side Right second ≡ seen ++ (s ∷ later) → is_new first s ≡ true
      → (y : ℕ) → memb y s.tags ≡ true → memb y (all_tags (pooled first second)) ≡ true
  unfolding pooled
  new_held seen s later e new y m =
      let united = map (united_with (of_side Right second)) first in
      let apart : united ++ unmet first second ≡ (united ++ keep (is_new first) seen) ++ (s ∷ keep (is_new first) later) =
      ap (λ (l : List TagRecord). united ++ l) (ap (keep (is_new first)) e ∙ keep_around (is_new first) seen s later new)
      ∙ sym (append_assoc united (keep (is_new first) seen) (s ∷ keep (is_new first) later)) in
      ap (λ (l : List TagRecord). memb y (all_tags l)) apart
      ∙ memb_around (united ++ keep (is_new first) seen) s (keep (is_new first) later) y m

-- the tags of a record of the second file are among those of the set that it is pooled with
pub met_held : (second seen : List TagRecord) (s : TagRecord) (later : List TagRecord) (r : TagRecord)
    → of_side Right second ≡ seen ++ (s ∷ later) → same_set r s ≡ true
    → (y : ℕ) → memb y s.tags ≡ true → memb y (united_with (of_side Right second) r).tags ≡ true
met_held second seen s later r e same y m =
    memb_append y r.tags (all_tags (keep (same_set r) (of_side Right second)))
    ∙ or_right (memb y r.tags) (memb y (all_tags (keep (same_set r) (of_side Right second))))
    (ap (λ (l : List TagRecord). memb y (all_tags l)) (ap (keep (same_set r)) e ∙ keep_around (same_set r) seen s later same)
    ∙ memb_around (keep (same_set r) seen) s (keep (same_set r) later) y m)

pub own_held : (others : List TagRecord) (r : TagRecord) (y : ℕ) → memb y r.tags ≡ true
    → memb y (united_with others r).tags ≡ true
own_held others r y m =
    memb_append y r.tags (all_tags (keep (same_set r) others))
    ∙ or_left (memb y r.tags) (memb y (all_tags (keep (same_set r) others))) m

-- ---- numbers used once

-- no other right set has the number of one
module _ {first : List TagRecord} (once : NumbersOnce first) (before : List TagRecord) (r : TagRecord) (after : List TagRecord)
    (e : first ≡ before ++ (r ∷ after)) (s : TagRecord)
    (side : r.side ≡ s.side) (number : r.number ≡ s.number) where
  pub none_before : number_used (of_side Right before) s ≡ false
  none_before = used_keep (λ q. same_side Right q.side) before s (sym (used_alike before r s side number) ∙ once before r after e)

  pub none_after : number_used (of_side Right after) s ≡ false
  none_after =
      used_keep (λ q. same_side Right q.side) after s
      (sym (used_alike after r s side number)
      ∙ used_behind before r [] after
      (λ b q a split. once b q a (e ∙ sym (append_assoc before (r ∷ []) after) ∙ split)))

-- ---- the length that the word of a slot tells

total_before : (before : List TagRecord) (r : TagRecord) (after : List TagRecord)
    → total_length before ≤ total_length (before ++ (r ∷ after))
total_before before r after =
    omega (arith, sum_append (λ (q : TagRecord). record_length (length q.tags)) before (r ∷ after))

pub length_told : (table : List ℕ) → rising table ≡ true → (first second : List TagRecord) → total_length first < pooled_mark
    → (before : List TagRecord) (r : TagRecord) (after : List TagRecord) → first ≡ before ++ (r ∷ after)
    → ((y : ℕ) → memb y (united_with (of_side Right second) r).tags ≡ true → memb y table ≡ true)
    → length_by (slot_word second before r) (length (items_of table r.tags)) ≡ length (part_of table (of_side Right second) r)
length_told table rises first second short before r after e held =
    by_test (number_used second r) met alone
  where
    met : number_used second r ≡ true
        → length_by (slot_word second before r) (length (items_of table r.tags)) ≡ length (part_of table (of_side Right second) r)
    met t =
        let long = length (collapse (united_with (of_side Right second) r).tags) in
        let more : pooled_mark + long - pooled_mark ≡ long = omega arith in
        ap (λ (b : Bool). length_by (cond b (pooled_mark + long) (total_length before)) (length (items_of table r.tags))) t
        ∙ ap (λ (b : Bool). cond b (length (items_of table r.tags)) (pooled_mark + long - pooled_mark))
        (le-ltb (pooled_mark + long) pooled_mark (omega arith))
        ∙ more ∙ sym (item_count table (united_with (of_side Right second) r).tags rises held)

    alone : number_used second r ≡ false
        → length_by (slot_word second before r) (length (items_of table r.tags)) ≡ length (part_of table (of_side Right second) r)
    alone f =
        let long = length (collapse (united_with (of_side Right second) r).tags) in
        ap (λ (b : Bool). length_by (cond b (pooled_mark + long) (total_length before)) (length (items_of table r.tags))) f
        ∙ ap (λ (b : Bool). cond b (length (items_of table r.tags)) (total_length before - pooled_mark))
        (lt-ltb (total_length before) pooled_mark (omega (arith, total_before before r after, ap total_length e, short)))
        ∙ ap length (sym (part_alone table (of_side Right second) r (used_keep (λ q. same_side Right q.side) second r f)))
