-- Records in which one right set's record got more tags: the sets are as many as before, its entries grow by what is new in it, and the
-- tag table takes the tags in.
use Prim.Native.Nat.{ℕ, suc, ◌+◌}
use mathlib.Core.Path.{◌≡◌, refl, sym, ap, ◌∙◌}
use mathlib.Core.List.{List, [], ◌∷◌, ◌++◌, append_assoc}
use mathlib.Core.Bool.{Bool, true, false, ◌||◌}
use native.Mathlib.Omega.{arith}
use lib.ListN.{length}
use Rattle.lists.specs.Lists.{onto, keep, sum, memb}
use Rattle.lists.proofs.Membership.{memb_append}
use Rattle.lists.proofs.Rising.{rising_same}
use Rattle.sets.specs.declared.Side.{Side}
use Rattle.tag_file.specs.Records.{TagRecord, same_side, of_side, insert_all, collapse, all_tags, tag_table, entries_of}
use Rattle.tag_file.proofs.Tables.{insert_all_append, rising-collapse, memb-collapse}
use Rattle.pool_loader_spec.proofs.OneMore.{with_tags, Grown}

-- by the records before it
module _ (side : Side) (after : List TagRecord) (r : TagRecord) (tags : List ℕ) where
  side_other : (before : List TagRecord) → same_side side r.side ≡ false
      → of_side side (before ++ (with_tags r tags ∷ after)) ≡ of_side side (before ++ (r ∷ after))
  unfolding keep
  side_other [] e = rw e
  side_other (q ∷ before) e = ap (onto (same_side side q.side) q) (side_other before e)

  length-onto : {A : Type 0} (b : Bool) (x y : A) (xs ys : List A) → length xs ≡ length ys
      → length (onto b x xs) ≡ length (onto b y ys)
  length-onto true x y xs ys e = ap suc e
  length-onto false x y xs ys e = e

  sets_side : (before : List TagRecord)
      → length (of_side side (before ++ (with_tags r tags ∷ after))) ≡ length (of_side side (before ++ (r ∷ after)))
  unfolding keep
  sets_side [] = length-onto (same_side side r.side) (with_tags r tags) r (of_side side after) (of_side side after) refl
  sets_side (q ∷ before) =
      length-onto (same_side side q.side) q q (of_side side (before ++ (with_tags r tags ∷ after)))
      (of_side side (before ++ (r ∷ after))) (sets_side before)

  abbrev size : TagRecord → ℕ
  size q = length (collapse q.tags)

  entries_side : (before : List TagRecord) → same_side side r.side ≡ true
      → entries_of side (before ++ (with_tags r tags ∷ after)) + size r ≡ entries_of side (before ++ (r ∷ after)) + size (with_tags r tags)
  unfolding keep sum
  entries_side [] e =
      let old : entries_of side (r ∷ after) ≡ size r + entries_of side after = rw e in
      let new : entries_of side (with_tags r tags ∷ after) ≡ size (with_tags r tags) + entries_of side after = rw e in
      omega (arith, old, new)
  entries_side (q ∷ before) e = by_side (same_side side q.side) (entries_side before e)
    where
      by_side : (b : Bool)
          → entries_of side (before ++ (with_tags r tags ∷ after)) + size r
          ≡ entries_of side (before ++ (r ∷ after)) + size (with_tags r tags)
          → sum size (onto b q (of_side side (before ++ (with_tags r tags ∷ after)))) + size r
          ≡ sum size (onto b q (of_side side (before ++ (r ∷ after)))) + size (with_tags r tags)
      by_side true again = omega (arith, again)
      by_side false again = again

tags_grown : (before after : List TagRecord) (r : TagRecord) (tags : List ℕ) (y : ℕ)
    → memb y (all_tags (before ++ (with_tags r tags ∷ after))) ≡ memb y (all_tags (before ++ (r ∷ after)) ++ tags)
unfolding all_tags
tags_grown [] after r tags y =
    memb_append y (r.tags ++ tags) (all_tags after)
    ∙ ap (λ (b : Bool). b || memb y (all_tags after)) (memb_append y r.tags tags)
    ∙ turned (memb y r.tags) (memb y tags) (memb y (all_tags after))
    ∙ ap (λ (b : Bool). b || memb y tags) (sym (memb_append y r.tags (all_tags after)))
    ∙ sym (memb_append y (r.tags ++ all_tags after) tags)
  where
    turned : (a b c : Bool) → ((a || b) || c) ≡ ((a || c) || b)
    turned true b c = refl
    turned false true true = refl
    turned false true false = refl
    turned false false true = refl
    turned false false false = refl
tags_grown (q ∷ before) after r tags y =
    memb_append y q.tags (all_tags (before ++ (with_tags r tags ∷ after)))
    ∙ ap (λ (b : Bool). memb y q.tags || b) (tags_grown before after r tags y)
    ∙ sym (memb_append y q.tags (all_tags (before ++ (r ∷ after)) ++ tags))
    ∙ ap (memb y) (sym (append_assoc q.tags (all_tags (before ++ (r ∷ after))) tags))

module _ {was is : List TagRecord} {r : TagRecord} {tags : List ℕ} (g : Grown was is r tags) where
  pub table_grown : tag_table is ≡ insert_all (tag_table was) tags
  table_grown =
      rising_same (tag_table is) (collapse (all_tags was ++ tags)) (rising-collapse (all_tags is)) (rising-collapse (all_tags was ++ tags))
      (λ y. memb-collapse y (all_tags is)
      ∙ ap (λ (l : List TagRecord). memb y (all_tags l)) g.stands
      ∙ tags_grown g.before g.after r tags y
      ∙ ap (λ (l : List TagRecord). memb y (all_tags l ++ tags)) (sym g.stood)
      ∙ sym (memb-collapse y (all_tags was ++ tags)))
      ∙ insert_all_append [] (all_tags was) tags

  pub sets_grown : (side : Side) → length (of_side side is) ≡ length (of_side side was)
  sets_grown side =
      ap (λ (l : List TagRecord). length (of_side side l)) g.stands ∙ sets_side side g.after r tags g.before
      ∙ ap (λ (l : List TagRecord). length (of_side side l)) (sym g.stood)

  pub entries_other : (side : Side) → same_side side r.side ≡ false → entries_of side is ≡ entries_of side was
  entries_other side e =
      ap (entries_of side) g.stands
      ∙ ap (sum (λ q. length (collapse q.tags))) (side_other side g.after r tags g.before e)
      ∙ ap (entries_of side) (sym g.stood)

  pub entries_grown : (side : Side) → same_side side r.side ≡ true
      → entries_of side is + length (collapse r.tags) ≡ entries_of side was + length (collapse (r.tags ++ tags))
  entries_grown side e =
      ap (λ (l : List TagRecord). entries_of side l + length (collapse r.tags)) g.stands
      ∙ entries_side side g.after r tags g.before e
      ∙ ap (λ (l : List TagRecord). entries_of side l + length (collapse (r.tags ++ tags))) (sym g.stood)
