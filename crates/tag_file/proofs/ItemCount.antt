-- A record has as many items as distinct tags, where the table has its tags. So the items of a side's sets are as many as the
-- collapsed entries; and the other lengths of the filled lists.
use mathlib.Core.Path.{◌≡◌, refl, sym, ap, ◌∙◌}
use mathlib.Core.List.{List, [], ◌∷◌, map, flatten}
use mathlib.Core.Bool.{Bool, true, false, ◌&&◌, and-false}
use Prim.Native.Nat.{ℕ, zero, suc, ◌+◌, ◌*◌, ◌/◌, ◌%◌}
use native.Mathlib.Omega.{arith}
use lib.ListN.{length, drop, get_or, length-append, length-map, drop_of_length-le}
use lib.Seq.{drop-cons}
use Rattle.lists.specs.Lists.{one, onto, count, keep, sum, memb, range, upto, rising}
use Rattle.lists.proofs.Bools.{by_test, or_left, or_right}
use Rattle.lists.proofs.Membership.{memb_append}
use Rattle.lists.proofs.Filtering.{length-keep, memb-keep}
use Rattle.lists.proofs.Rising.{rising_same, rising-keep}
use Rattle.sets.specs.declared.Side.{Side}
use Rattle.tag_file.specs.Format.{tag_length, bytes_of, tag_bytes}
use Rattle.tag_file.specs.Records.{TagRecord, same_side, of_side, collapse, all_tags, tag_table, items_of, entries_of, sets_of_side}
use Rattle.tag_file.specs.Loading.{numbers_of, ends_from, ends_of, flat_items}
use Rattle.tag_file.proofs.Tables.{rising-collapse, memb-collapse}

-- ---- the numbers of a rising table that are among others are those others, collapsed

module _ (table tags : List ℕ) (r : rising table ≡ true) (held : (y : ℕ) → memb y tags ≡ true → memb y table ≡ true) where
  pub keep-collapse : keep (λ t. memb t tags) table ≡ collapse tags
  keep-collapse =
      rising_same (keep (λ t. memb t tags) table) (collapse tags) (rising-keep (λ t. memb t tags) table r) (rising-collapse tags)
      (λ z. memb-keep (λ t. memb t tags) table z ∙ both z ∙ sym (memb-collapse z tags))
    where
      both : (z : ℕ) → (memb z table && memb z tags) ≡ memb z tags
      both z = by_test (memb z tags) (λ t. rw (t, held z t)) (λ f. rw f (and-false (memb z table)))

  by_place : (from n : ℕ) → from + n ≡ length table
      → count (λ i. memb (get_or table i 0) tags) (range from n) ≡ count (λ t. memb t tags) (drop from table)
  unfolding count range
  by_place from zero e = rw (drop_of_length-le table {i = from} (omega arith))
  by_place from (suc n) e =
      rw (drop-cons table from 0 (omega arith))
      (ap (λ (k : ℕ). one (memb (get_or table from 0) tags) + k) (by_place (suc from) n (omega arith)))

  pub item_count : length (items_of table tags) ≡ length (collapse tags)
  unfolding items_of
  item_count =
      length-keep (λ i. memb (get_or table i 0) tags) (upto (length table)) ∙ by_place 0 (length table) (omega arith)
      ∙ sym (length-keep (λ t. memb t tags) table) ∙ ap length keep-collapse

-- ---- the lengths of what is filled

pub length-bytes_of : (n v : ℕ) → length (bytes_of n v) ≡ n
unfolding bytes_of
length-bytes_of zero v = refl
length-bytes_of (suc n) v = length-append (bytes_of n (v / 256)) (v % 256 ∷ []) ∙ omega (arith, length-bytes_of n (v / 256))

pub length-tag_bytes : (tags : List ℕ) → length (tag_bytes tags) ≡ tag_length * length tags
unfolding tag_bytes
length-tag_bytes [] = refl
length-tag_bytes (t ∷ ts) =
    length-append (bytes_of tag_length t) (tag_bytes ts) ∙ omega (arith, length-bytes_of tag_length t, length-tag_bytes ts)

length-ends_from : (start : ℕ) (sets : List (List ℕ)) → length (ends_from start sets) ≡ length sets
unfolding ends_from
length-ends_from start [] = refl
length-ends_from start (s ∷ ss) = ap suc (length-ends_from (start + length s) ss)

module _ (side : Side) (rs : List TagRecord) where
  pub length-numbers_of : length (numbers_of side rs) ≡ length (of_side side rs)
  length-numbers_of = length-map (of_side side rs) (λ r. r.number)

  pub length-ends_of : length (ends_of side rs) ≡ length (of_side side rs)
  length-ends_of =
      length-ends_from 0 (sets_of_side side (tag_table rs) rs) ∙ length-map (of_side side rs) (λ r. items_of (tag_table rs) r.tags)

-- over a table that has all tags of the records
joined_count : (side : Side) (table : List ℕ) (rs : List TagRecord) → rising table ≡ true
    → ((y : ℕ) → memb y (all_tags rs) ≡ true → memb y table ≡ true)
    → length (flatten (sets_of_side side table rs)) ≡ entries_of side rs
unfolding keep sum flatten all_tags
joined_count side table [] r held = refl
joined_count side table (q ∷ rs) r held = by_mine (same_side side q.side) (joined_count side table rs r others)
  where
    mine : (y : ℕ) → memb y q.tags ≡ true → memb y table ≡ true
    mine y m = held y (memb_append y q.tags (all_tags rs) ∙ or_left (memb y q.tags) (memb y (all_tags rs)) m)

    others : (y : ℕ) → memb y (all_tags rs) ≡ true → memb y table ≡ true
    others y m = held y (memb_append y q.tags (all_tags rs) ∙ or_right (memb y q.tags) (memb y (all_tags rs)) m)

    by_mine : (b : Bool) → length (flatten (sets_of_side side table rs)) ≡ entries_of side rs
        → length (flatten (map (λ (p : TagRecord). items_of table p.tags) (onto b q (of_side side rs))))
        ≡ sum (λ (p : TagRecord). length (collapse p.tags)) (onto b q (of_side side rs))
    by_mine true again =
        length-append (items_of table q.tags) (flatten (sets_of_side side table rs)) ∙ rw (item_count table q.tags r mine, again)
    by_mine false again = again

pub length-flat_items : (side : Side) (rs : List TagRecord) → length (flat_items side rs) ≡ entries_of side rs
length-flat_items side rs =
    joined_count side (tag_table rs) rs (rising-collapse (all_tags rs)) (λ y m. memb-collapse y (all_tags rs) ∙ m)
