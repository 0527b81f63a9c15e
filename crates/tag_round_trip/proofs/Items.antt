-- The items of a record over a table, and the tags of those items: they are the record's tags, each once, rising.
use mathlib.Core.Path.{◌≡◌, refl, sym, ap, ◌∙◌}
use Prim.Native.Nat.{ℕ, zero, suc, ◌+◌, ◌≤◌}
use mathlib.Core.List.{List, [], ◌∷◌, map}
use mathlib.Core.Bool.{Bool, true, false}
use native.Mathlib.Omega.{arith}
use borrow.Author.Tests.{ltb-true, le-leb}
use lib.Dec.{ltb}
use lib.ListN.{length, drop, get_or, drop_of_length-le}
use lib.Seq.{drop-cons}
use Rattle.lists.specs.Lists.{all, keep, onto, memb, range, upto, rising, subset}
use Rattle.lists.proofs.Bools.{and_both}
use Rattle.lists.proofs.Filtering.{all_keep, keep_same}
use Rattle.lists.proofs.Mapping.{map_agree}
use Rattle.lists.proofs.Throughout.{all_elim, subset_elim}
use Rattle.lists.proofs.Ranges.{all_upto}
use Rattle.lists.proofs.Rising.{rising-keep, rising-range}
use Rattle.sets.specs.Limits.{max_set_length}
use Rattle.sets.specs.Collections.{good_items}
use Rattle.tag_file.specs.Format.{tag_bytes}
use Rattle.tag_file.specs.Records.{collapse, items_of}
use Rattle.tag_file.proofs.Tables.{memb-collapse}
use Rattle.tag_file.proofs.ItemCount.{keep-collapse, item_count}
use Rattle.tag_writer_spec.specs.Writer.{item_tag, item_tags}
use Rattle.tag_round_trip.proofs.Values.{tags_fit, tag_at_table}

map-keep : (f : ℕ → ℕ) (p : ℕ → Bool) (xs : List ℕ) → map f (keep (λ x. p (f x)) xs) ≡ keep p (map f xs)
unfolding keep
map-keep f p [] = refl
map-keep f p (x ∷ xs) = here (p (f x)) ∙ ap (onto (p (f x)) (f x)) (map-keep f p xs)
  where
    here : (b : Bool) → map f (onto b x (keep (λ y. p (f y)) xs)) ≡ onto b (f x) (map f (keep (λ y. p (f y)) xs))
    here true = refl
    here false = refl

map_range : (l : List ℕ) (from n : ℕ) → from + n ≡ length l → map (λ i. get_or l i 0) (range from n) ≡ drop from l
unfolding range
map_range l from zero e = sym (drop_of_length-le l {i = from} (omega arith))
map_range l from (suc n) e =
    rw (drop-cons l from 0 (omega arith)) (ap (λ (k : List ℕ). get_or l from 0 ∷ k) (map_range l (suc from) n (omega arith)))

map-upto : (l : List ℕ) → map (λ i. get_or l i 0) (upto (length l)) ≡ l
map-upto l = map_range l 0 (length l) (omega arith)

module _ (table tags : List ℕ) where
  -- the items are below the number of tags, and rise
  pub items_below : all (λ i. ltb i (length table)) (items_of table tags) ≡ true
  unfolding items_of
  items_below =
      all_keep (λ i. ltb i (length table)) (λ i. memb (get_or table i 0) tags) (upto (length table)) (all_upto (length table))

  items_rising : rising (items_of table tags) ≡ true
  unfolding items_of
  items_rising = rising-keep (λ i. memb (get_or table i 0) tags) (upto (length table)) (rising-range 0 (length table))

module _ (table tags : List ℕ) (r : rising table ≡ true) (sub : subset tags table ≡ true) where
  -- an item's tag is the table's
  items_tags : map (λ i. get_or table i 0) (items_of table tags) ≡ collapse tags
  unfolding items_of
  items_tags =
      map-keep (λ i. get_or table i 0) (λ t. memb t tags) (upto (length table))
      ∙ ap (keep (λ t. memb t tags)) (map-upto table) ∙ keep-collapse table tags r (subset_elim tags table sub)

  pub tags_of_items : tags_fit table ≡ true → item_tags (tag_bytes table) (items_of table tags) ≡ collapse tags
  tags_of_items fit =
      map_agree (item_tag (tag_bytes table)) (λ i. get_or table i 0) (items_of table tags)
      (λ i there.
      tag_at_table table i fit
      (ltb-true i (length table) (all_elim _ (items_of table tags) (items_below table tags) i there)))
      ∙ items_tags

  pub items_good : length (collapse tags) ≤ max_set_length → good_items (length table) (items_of table tags) ≡ true
  items_good few =
      let n = item_count table tags r (subset_elim tags table sub) in
      and_both (le-leb (length (items_of table tags)) max_set_length (omega arith))
      (and_both (items_below table tags) (items_rising table tags))

pub items_collapse : (table tags : List ℕ) → items_of table (collapse tags) ≡ items_of table tags
unfolding items_of
items_collapse table tags =
    keep_same (λ i. memb (get_or table i 0) (collapse tags)) (λ i. memb (get_or table i 0) tags) (upto (length table))
    (λ i. memb-collapse (get_or table i 0) tags)
