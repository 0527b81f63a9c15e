-- The program's lists hold every file of at most 65,536 bytes that has no record at fault, so that a load is never refused with
-- 4: its records cover the file, and each collapsed entry stands for twelve bytes of it.
use Prim.Native.Nat.{ℕ, ◌*◌, ◌≤◌}
use mathlib.Core.Path.{◌≡◌}
use mathlib.Core.List.{List, [], ◌∷◌}
use mathlib.Core.Bool.{Bool, true, false}
use native.Mathlib.Omega.{arith}
use borrow.Author.Tests.{le-leb}
use lib.ListN.{length}
use Rattle.std.specs.Prelude.{Ok}
use Rattle.lists.specs.Lists.{onto, keep, sum}
use Rattle.lists.proofs.Bools.{and_both}
use Rattle.sets.specs.Limits.{max_sets}
use Rattle.sets.specs.declared.Side.{Side}
use Rattle.sets.specs.declared.Side.TheVariants.{Left, Right}
use Rattle.tag_file.specs.Format.{tag_length}
use Rattle.tag_file.specs.Records.{TagRecord, records, total_length, same_side, of_side, entries_of, collapse, tag_table}
use Rattle.tag_file.specs.Loading.{Lists, file_fault, filled, fits, room_for}
use Rattle.tag_file.proofs.ItemCount.{length-tag_bytes, length-numbers_of, length-ends_of, length-flat_items}
use Rattle.tag_round_trip.proofs.Sorted.{length-collapse}
use Rattle.tag_file.proofs.FaultFree.{FaultFree, file_free}
use Rattle.tag_containment.proofs.Covered.{records_cover}
use Rattle.listing_spec.specs.Listing.{max_file}
use Rattle.listing_spec.specs.Inner.{table_bytes, side_items}

-- the entries of a side stand for twelve bytes each
entries_bytes : (side : Side) (rs : List TagRecord) → tag_length * entries_of side rs ≤ total_length rs
unfolding keep sum
entries_bytes side [] = omega arith
entries_bytes side (r ∷ rs) = here (same_side side r.side) (entries_bytes side rs)
  where
    here : (b : Bool) → tag_length * entries_of side rs ≤ total_length rs
        → tag_length * sum (λ (q : TagRecord). length (collapse q.tags)) (onto b r (of_side side rs)) ≤ total_length (r ∷ rs)
    here true again = omega (arith, length-collapse r.tags)
    here false again = omega arith

-- lists as long as the program's
pub record ProgramLists (lent : Lists) : Type 0 where
  pub tags : table_bytes ≡ length lent.tags
  pub left_numbers : max_sets ≡ length lent.left_numbers
  pub left_ends : max_sets ≡ length lent.left_ends
  pub left_items : side_items ≡ length lent.left_items
  pub right_numbers : max_sets ≡ length lent.right_numbers
  pub right_ends : max_sets ≡ length lent.right_ends
  pub right_items : side_items ≡ length lent.right_items

module _ (file : List ℕ) (clear : file_fault file ≡ Ok tt) where
  pub fault_free : FaultFree (records file)
  fault_free = file_free file clear

  few_entries : length file ≤ max_file → (side : Side) → entries_of side (records file) ≤ side_items
  few_entries short side = omega (arith, entries_bytes side (records file), records_cover file clear)

  fits_lent : (part lent : List ℕ) (n m : ℕ) → length part ≡ n → n ≤ m → m ≡ length lent → fits part lent ≡ true
  fits_lent part lent n m long few size = le-leb (length part) (length lent) (omega arith)

  -- no output list is too short
  pub never_short : (lent : Lists) → ProgramLists lent → length file ≤ max_file → room_for (filled (records file)) lent ≡ true
  unfolding room_for
  never_short lent l short =
      let rs = records file in
      let f = filled rs in
      let free = fault_free in
      and_both (fits_lent f.tags lent.tags _ _ (length-tag_bytes (tag_table rs)) (omega (arith, free.tags)) l.tags)
      (and_both (fits_lent f.left_numbers lent.left_numbers _ _ (length-numbers_of Left rs) (free.places Left) l.left_numbers)
      (and_both (fits_lent f.left_ends lent.left_ends _ _ (length-ends_of Left rs) (free.places Left) l.left_ends)
      (and_both (fits_lent f.left_items lent.left_items _ _ (length-flat_items Left rs) (few_entries short Left) l.left_items)
      (and_both
      (fits_lent f.right_numbers lent.right_numbers _ _ (length-numbers_of Right rs) (free.places Right) l.right_numbers)
      (and_both (fits_lent f.right_ends lent.right_ends _ _ (length-ends_of Right rs) (free.places Right) l.right_ends)
      (fits_lent f.right_items lent.right_items _ _ (length-flat_items Right rs) (few_entries short Right)
      l.right_items))))))
