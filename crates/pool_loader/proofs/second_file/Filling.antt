-- What the second passes ask of a pair of files that were taken in, and what they fill: the left sets are the first file's, over the
-- table of both.
use mathlib.Core.Path.{◌≡◌, sym, ap, subst, ◌∙◌}
use mathlib.Core.List.{List, map, flatten}
use mathlib.Core.Bool.{true}
use Prim.Native.Nat.{ℕ, ◌<◌, ◌≤◌}
use native.Mathlib.Omega.{arith}
use lib.ListN.{length, get_or}
use Rattle.lists.specs.Lists.{memb}
use Rattle.sets.specs.Lent.{filled_over}
use Rattle.sets.specs.declared.Side.TheVariants.{Left, Right}
use Rattle.tag_file.specs.Format.{tag_bytes}
use Rattle.tag_file.specs.Records.{TagRecord, records, of_side, all_tags, tag_table, sets_of_side, items_of}
use Rattle.tag_file.specs.Loading.{Lists, filled, numbers_of, ends_from, ends_of, flat_items}
use Rattle.tag_file.proofs.AnswerLaws.{RoomForEach, room_each}
use Rattle.tag_file.proofs.ItemCount.{length-flat_items}
use Rattle.tag_file.proofs.Tables.{memb-collapse}
use Rattle.pool_loader_spec.specs.Pooling.{pooled_records}
use Rattle.pool_loader_spec.proofs.SecondFaults.{second_once}
use Rattle.pool_loader_spec.proofs.Sides.{left_pooled}
use Rattle.tag_index.specs.Index.{table_of, Sorted, Ranked}
use Rattle.tag_loader.specs.fill.Fill.{FillReady}
use Rattle.tag_loader.proofs.Rooms.{memb_side_tags}
use Rattle.pool_scan.proofs.right_slots.Accepted.{once_accepted, short_accepted}
use Rattle.pool_fill.specs.Pool.{PoolFillReady}
use Rattle.pool_loader.specs.second_file.Judging.{PoolFillable}
use Rattle.tag_index.specs.declared.TagIndex.{TagIndex}

module _ {first second : List ℕ} {index : TagIndex} {n : ℕ} {used counts slots : List ℕ} {lent : Lists}
    (f : PoolFillable first second index n used counts slots lent) where
  abbrev P : List TagRecord
  P = pooled_records first second

  each : RoomForEach (filled P) lent
  each = room_each (filled P) lent f.room

  pub sorted_here : Sorted index n
  sorted_here = subst (λ (k : ℕ). Sorted index k) (sym f.count) f.taken.sorted

  table_here : table_of index n ≡ tag_table P
  table_here = ap (λ (k : ℕ). table_of index k) f.count ∙ f.taken.table

  -- ---- the tag table

  pub tags_room : length (tag_bytes (table_of index n)) ≤ length lent.tags
  tags_room = subst (λ (l : List ℕ). length (tag_bytes l) ≤ length lent.tags) (sym table_here) each.tags

  pub tags_filled : (before : List ℕ) {after : List ℕ} → after ≡ filled_over (tag_bytes (table_of index n)) before
      → after ≡ filled_over (tag_bytes (tag_table P)) before
  tags_filled before e = e ∙ ap (λ (t : List ℕ). filled_over (tag_bytes t) before) table_here

  -- ---- the left sets

  lefts : of_side Left (records first) ≡ of_side Left P
  lefts = sym (left_pooled (records first) (records second))

  left_numbers_lem : numbers_of Left (records first) ≡ numbers_of Left P
  left_numbers_lem = ap (map (λ r. r.number)) lefts

  left_sets : sets_of_side Left (table_of index n) (records first) ≡ sets_of_side Left (tag_table P) P
  left_sets =
      ap (λ (l : List TagRecord). map (λ r. items_of (table_of index n) r.tags) l) lefts
      ∙ ap (λ (t : List ℕ). sets_of_side Left t P) table_here

  held : (y : ℕ) → memb y (all_tags P) ≡ true → memb y (table_of index n) ≡ true
  held y m = ap (memb y) table_here ∙ memb-collapse y (all_tags P) ∙ m

  module _ {ranks : List ℕ} (ranked : Ranked n index.ids ranks) where
    pub left_ready : FillReady first index n ranks Left lent.left_numbers lent.left_ends lent.left_items
    left_ready =
        let items = ap (λ (l : List (List ℕ)). length (flatten l)) left_sets in
        record {
          sorted = sorted_here;
          ranked = ranked;
          small = omega (arith, f.count, f.taken.limited.tags);
          held = λ y m. held y (memb_side_tags Left P y (ap (λ (l : List TagRecord). memb y (all_tags l)) (sym lefts) ∙ m));
          few = omega (arith, items, length-flat_items Left P, f.taken.limited.left_entries);
          for_numbers = omega (arith, ap length left_numbers_lem, each.left_numbers);
          for_ends = omega (arith, ap (λ (l : List (List ℕ)). length (ends_from 0 l)) left_sets, each.left_ends);
          for_items = omega (arith, items, each.left_items);
        }

    pub right_ready : ((i : ℕ) → get_or first i 0 < 256)
        → PoolFillReady first second index n ranks used counts slots lent.right_numbers lent.right_ends lent.right_items
    right_ready byte =
        let items = ap (λ (t : List ℕ). length (flatten (sets_of_side Right t P))) table_here in
        record {
          sorted = sorted_here;
          ranked = ranked;
          small = omega (arith, f.count, f.taken.limited.tags);
          held = held;
          noted = f.noted;
          counted = f.counted;
          size = f.size;
          words = f.words;
          once = once_accepted first f.clean;
          once_second = second_once (records first) (length first) second f.clean_second;
          short = short_accepted first f.clean byte;
          few = omega (arith, items, length-flat_items Right P, f.taken.limited.right_entries);
          for_numbers = each.right_numbers;
          for_ends = omega (arith, ap (λ (t : List ℕ). length (ends_from 0 (sets_of_side Right t P))) table_here, each.right_ends);
          for_items = omega (arith, items, each.right_items);
        }

  -- ---- what is filled over the index is what is filled over the table of both

  pub left_numbers_filled : (before : List ℕ) {after : List ℕ} → after ≡ filled_over (numbers_of Left (records first)) before
      → after ≡ filled_over (numbers_of Left P) before
  left_numbers_filled before e = e ∙ ap (λ (l : List ℕ). filled_over l before) left_numbers_lem

  pub left_ends_filled : (before : List ℕ) {after : List ℕ}
      → after ≡ filled_over (ends_from 0 (sets_of_side Left (table_of index n) (records first))) before
      → after ≡ filled_over (ends_of Left P) before
  left_ends_filled before e = e ∙ ap (λ (l : List (List ℕ)). filled_over (ends_from 0 l) before) left_sets

  pub left_items_filled : (before : List ℕ) {after : List ℕ}
      → after ≡ filled_over (flatten (sets_of_side Left (table_of index n) (records first))) before
      → after ≡ filled_over (flat_items Left P) before
  left_items_filled before e = e ∙ ap (λ (l : List (List ℕ)). filled_over (flatten l) before) left_sets

  pub right_ends_filled : (before : List ℕ) {after : List ℕ}
      → after ≡ filled_over (ends_from 0 (sets_of_side Right (table_of index n) P)) before
      → after ≡ filled_over (ends_of Right P) before
  right_ends_filled before e = e ∙ ap (λ (t : List ℕ). filled_over (ends_from 0 (sets_of_side Right t P)) before) table_here

  pub right_items_filled : (before : List ℕ) {after : List ℕ}
      → after ≡ filled_over (flatten (sets_of_side Right (table_of index n) P)) before
      → after ≡ filled_over (flat_items Right P) before
  right_items_filled before e = e ∙ ap (λ (t : List ℕ). filled_over (flatten (sets_of_side Right t P)) before) table_here
