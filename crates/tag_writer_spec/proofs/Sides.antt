-- Laws of a side without a bad set: what holds of the set at each place, its records one by one, and their length.
use mathlib.Core.Path.{◌≡◌}
use Prim.Native.Nat.{ℕ, suc, ◌+◌, ◌*◌, ◌/◌, ◌≤◌, ◌<◌}
use mathlib.Core.List.{List, [], ◌∷◌, ◌++◌}
use native.Mathlib.Numerals.{add-one}
use native.Mathlib.Omega.{arith}
use borrow.Author.Tests.{ltb-true}
use lib.Dec.{ltb}
use lib.ListN.{length, drop, get_or, length-append}
use lib.Seq.{drop-cons}
use Rattle.std.specs.Prelude.{None}
use Rattle.lists.proofs.Throughout.{all_at}
use Rattle.sets.specs.Collections.{between, sets_from, first_bad_from, last_end}
use Rattle.sets.specs.declared.Side.{Side}
use Rattle.sets.proofs.Between.{length-between}
use Rattle.sets.proofs.Good.{GoodSet, good_cons, good_rest}
use Rattle.tag_file.specs.Format.{tag_length, head_length, record_length, record_bytes}
use Rattle.tag_file.proofs.ItemCount.{length-tag_bytes}
use Rattle.tag_writer_spec.specs.Inner.{ItemsFit}
use Rattle.tag_writer_spec.specs.Writer.{item_tags, records_of}
use Rattle.tag_writer_spec.proofs.Records.{length_head, length-item_tags}

-- the item at a place of a set that is not bad is below the number of tags
item_below : (T k start end : ℕ) (items : List ℕ) → GoodSet T k start end items
    → (i : ℕ) → i < length (between start end items) → get_or (between start end items) i 0 < T
item_below T k start end items so i below =
    ltb-true (get_or (between start end items) i 0) T (all_at (λ i. ltb i T) 0 (between start end items) so.below i below)

pub fit_items : (tags items : List ℕ) (k start end : ℕ) → GoodSet (length tags / tag_length) k start end items
    → ItemsFit tags (between start end items)
fit_items tags items k start end so =
    record { known = λ i below. omega (arith, item_below (length tags / tag_length) k start end items so i below) }

pub length_record : (side : Side) (number : ℕ) (tags set : List ℕ)
    → length (record_bytes side number (item_tags tags set)) ≡ record_length (length set)
length_record side number tags set =
    rw (length-append, length_head side number _, length-tag_bytes, length-item_tags)

-- the records from place k on: the one there, and those after it
pub records_next : (side : Side) (tags numbers ends items : List ℕ) (k start : ℕ) → k < length ends → length numbers ≡ length ends
    → records_of side tags (drop k numbers) (sets_from start (drop k ends) items)
    ≡ record_bytes side (get_or numbers k 0) (item_tags tags (between start (get_or ends k 0) items))
    ++ records_of side tags (drop (k + 1) numbers) (sets_from (get_or ends k 0) (drop (k + 1) ends) items)
unfolding records_of sets_from
records_next side tags numbers ends items k start more same =
    let fewer : k < length numbers = omega arith in
    rw (drop-cons numbers k 0 fewer, drop-cons ends k 0 more, add-one k)

-- the length of the records of sets that are not bad
pub records-length : (T : ℕ) (side : Side) (tags numbers : List ℕ) (k start : ℕ) (ends items : List ℕ)
    → first_bad_from T k start ends items ≡ None → length numbers ≡ length ends
    → length (records_of side tags numbers (sets_from start ends items)) + tag_length * start
    ≡ head_length * length ends + tag_length * last_end start ends
unfolding records_of sets_from last_end
records-length T side tags [] k start [] items e same = omega arith
records-length T side tags [] k start (end ∷ ends) items e same = absurd (omega arith)
records-length T side tags (number ∷ numbers) k start [] items e same = absurd (omega arith)
records-length T side tags (number ∷ numbers) k start (end ∷ ends) items e same =
    let set = good_cons T k start end ends items e in
    let next = good_rest T k start end ends items e in
    let rest = records-length T side tags numbers (suc k) end ends items next (omega arith) in
    let here = length_record side number tags (between start end items) in
    let n = length-between start end items set.within in
    let rise : start ≤ end = set.ordered in
    rw length-append (omega arith)
