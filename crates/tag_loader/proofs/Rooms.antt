-- Lists that are long enough: the counts tell it, and what the second pass asks follows.
use mathlib.Core.Path.{◌≡◌, refl, sym, ap, subst, ◌∙◌}
use mathlib.Core.List.{List, [], ◌∷◌, flatten}
use mathlib.Core.Bool.{Bool, true, false, ◌&&◌, ◌||◌}
use Prim.Native.Nat.{ℕ, ◌≤◌}
use native.Mathlib.Omega.{arith}
use lib.ListN.{length}
use Rattle.lists.specs.Lists.{onto, keep, memb}
use Rattle.lists.proofs.Bools.{or_left, or_right, or_cases}
use Rattle.lists.proofs.Membership.{memb_append}
use Rattle.sets.specs.Limits.{max_entries}
use Rattle.sets.specs.Lent.{filled_over}
use Rattle.sets.specs.declared.Side.{Side}
use Rattle.sets.specs.declared.Side.TheVariants.{Left, Right}
use Rattle.tag_file.specs.Format.{tag_bytes}
use Rattle.tag_file.specs.Records.{TagRecord, records, same_side, tag_table, of_side, all_tags, entries_of, sets_of_side}
use Rattle.tag_file.specs.Loading.{Lists, totals_of, numbers_of, ends_from, ends_of, flat_items, fits, room_for, filled}
use Rattle.tag_file.proofs.Tables.{memb-collapse}
use Rattle.tag_file.proofs.ItemCount.{length-tag_bytes, length-numbers_of, length-ends_of, length-flat_items}
use Rattle.tag_file.proofs.AnswerLaws.{RoomForEach, room_each}
use Rattle.tag_index.specs.Index.{table_of, Sorted, Ranked}
use Rattle.tag_loader.specs.fill.Fill.{FillReady}
use Rattle.tag_loader.specs.lent_lists.LentLists.{side_fits, side_room, room_in, has_room}
use Rattle.tag_loader.specs.Passes.{Fillable}
use Rattle.tag_index.specs.declared.TagIndex.{TagIndex}

side_fits_lem : (side : Side) (rs : List TagRecord) (numbers ends items : List ℕ)
    → side_fits (length (of_side side rs)) (entries_of side rs) (side_room numbers ends items)
    ≡ (fits (numbers_of side rs) numbers && (fits (ends_of side rs) ends && fits (flat_items side rs) items))
side_fits_lem side rs numbers ends items = rw (length-numbers_of side rs, length-ends_of side rs, length-flat_items side rs)

-- the tags of a side are among all tags
pub memb_side_tags : (side : Side) (rs : List TagRecord) (y : ℕ) → memb y (all_tags (of_side side rs)) ≡ true
    → memb y (all_tags rs) ≡ true
unfolding keep all_tags
memb_side_tags side [] y m = m
memb_side_tags side (r ∷ rs) y m =
    memb_append y r.tags (all_tags rs) ∙ by_mine (same_side side r.side) m (memb_side_tags side rs y)
  where
    by_mine : (b : Bool) → memb y (all_tags (onto b r (of_side side rs))) ≡ true
        → (memb y (all_tags (of_side side rs)) ≡ true → memb y (all_tags rs) ≡ true)
        → (memb y r.tags || memb y (all_tags rs)) ≡ true
    by_mine true m again =
        or_cases (memb y r.tags) (memb y (all_tags (of_side side rs)))
        (sym (memb_append y r.tags (all_tags (of_side side rs))) ∙ m)
        (or_left (memb y r.tags) (memb y (all_tags rs)))
        (λ later. or_right (memb y r.tags) (memb y (all_tags rs)) (again later))
    by_mine false m again = or_right (memb y r.tags) (memb y (all_tags rs)) (again m)

-- the counts tell whether there is room
pub room_counted : (rs : List TagRecord) (lent : Lists)
    → has_room (totals_of rs) (room_in lent) ≡ room_for (filled rs) lent
unfolding room_for
room_counted rs lent =
    rw (
      side_fits_lem Left rs lent.left_numbers lent.left_ends lent.left_items,
      side_fits_lem Right rs lent.right_numbers lent.right_ends lent.right_items,
      ← length-tag_bytes (tag_table rs),
    )
    (regroup (fits (tag_bytes (tag_table rs)) lent.tags) (fits (numbers_of Left rs) lent.left_numbers)
    (fits (ends_of Left rs) lent.left_ends) (fits (flat_items Left rs) lent.left_items)
    (fits (numbers_of Right rs) lent.right_numbers
    && (fits (ends_of Right rs) lent.right_ends && fits (flat_items Right rs) lent.right_items)))
  where
    regroup : (a b c d e : Bool) → (a && ((b && (c && d)) && e)) ≡ (a && (b && (c && (d && e))))
    regroup a true true d e = refl
    regroup a true false d e = refl
    regroup a false c d e = refl

module _ {file : List ℕ} {index : TagIndex} {n : ℕ} {lent : Lists} (f : Fillable file index n lent) where
  each : RoomForEach (filled (records file)) lent
  each = room_each (filled (records file)) lent f.room

  pub sorted_here : Sorted index n
  sorted_here = subst (λ (k : ℕ). Sorted index k) (sym f.count) f.taken.sorted

  table_here : table_of index n ≡ tag_table (records file)
  table_here = ap (λ (k : ℕ). table_of index k) f.count ∙ f.taken.table

  pub tags_room : length (tag_bytes (table_of index n)) ≤ length lent.tags
  tags_room = subst (λ (l : List ℕ). length (tag_bytes l) ≤ length lent.tags) (sym table_here) each.tags

  pub tags_filled : (before : List ℕ) {after : List ℕ} → after ≡ filled_over (tag_bytes (table_of index n)) before
      → after ≡ filled_over (tag_bytes (tag_table (records file))) before
  tags_filled before e = e ∙ ap (λ (t : List ℕ). filled_over (tag_bytes t) before) table_here

  -- what is filled over the index is what is filled over the file's table
  pub ends_filled : (side : Side) (before : List ℕ) {after : List ℕ}
      → after ≡ filled_over (ends_from 0 (sets_of_side side (table_of index n) (records file))) before
      → after ≡ filled_over (ends_of side (records file)) before
  ends_filled side before e =
      e ∙ ap (λ (t : List ℕ). filled_over (ends_from 0 (sets_of_side side t (records file))) before) table_here

  pub items_filled : (side : Side) (before : List ℕ) {after : List ℕ}
      → after ≡ filled_over (flatten (sets_of_side side (table_of index n) (records file))) before
      → after ≡ filled_over (flat_items side (records file)) before
  items_filled side before e =
      e ∙ ap (λ (t : List ℕ). filled_over (flatten (sets_of_side side t (records file))) before) table_here

  -- the index has the tags of each side
  held_here : (side : Side) (y : ℕ) → memb y (all_tags (of_side side (records file))) ≡ true
      → memb y (table_of index n) ≡ true
  held_here side y m =
      ap (memb y) table_here ∙ memb-collapse y (all_tags (records file)) ∙ memb_side_tags side (records file) y m

  module _ {ranks : List ℕ} (ranked : Ranked n index.ids ranks) where
    side_ready : (side : Side) (numbers ends items : List ℕ) → entries_of side (records file) ≤ max_entries
        → length (numbers_of side (records file)) ≤ length numbers → length (ends_of side (records file)) ≤ length ends
        → length (flat_items side (records file)) ≤ length items
        → FillReady file index n ranks side numbers ends items
    side_ready side numbers ends items few for_numbers for_ends for_items =
        let same = ap (λ (t : List ℕ). length (flatten (sets_of_side side t (records file)))) table_here in
        record {
          sorted = sorted_here;
          ranked = ranked;
          small = omega (arith, f.count, f.taken.limited.tags);
          held = held_here side;
          few = omega (arith, same, length-flat_items side (records file));
          for_numbers = for_numbers;
          for_ends =
              omega (arith, ap (λ (t : List ℕ). length (ends_from 0 (sets_of_side side t (records file)))) table_here);
          for_items = omega (arith, same);
        }

    pub left_ready : FillReady file index n ranks Left lent.left_numbers lent.left_ends lent.left_items
    left_ready =
        side_ready Left lent.left_numbers lent.left_ends lent.left_items f.taken.limited.left_entries
        each.left_numbers each.left_ends each.left_items

    pub right_ready : FillReady file index n ranks Right lent.right_numbers lent.right_ends lent.right_items
    right_ready =
        side_ready Right lent.right_numbers lent.right_ends lent.right_items f.taken.limited.right_entries
        each.right_numbers each.right_ends each.right_items
