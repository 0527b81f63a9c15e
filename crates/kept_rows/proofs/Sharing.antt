-- One row for several left sets: a part of the work list copied to the end of the rows, and kept as the row of each. The invariant
-- of `share_row`, with its start, step and end.
use Prim.Native.Nat.{ℕ, ◌+◌, ◌-◌, ◌≤◌, ◌<◌}
use mathlib.Core.Path.{◌≡◌, refl, sym, ap, subst, ◌∙◌}
use mathlib.Core.List.{List}
use native.Mathlib.Omega.{arith}
use lib.ListN.{length, take}
use Rattle.lists.specs.Lists.{slice}
use Rattle.lists.proofs.Slices.{frame_less, frame_at}
use Rattle.join_spec.specs.Query.{Query}
use Rattle.join_index.specs.declared.Layout.{Layout}
use Rattle.words.specs.Words.{Word}
use Rattle.words.specs.flags.Flags.{Behind}
use Rattle.words.specs.copies.Copies.{Copied}
use Rattle.join_index.specs.Asking.{SomeQuery, Index}
use Rattle.join_index.specs.Ranges.{left_in}
use Rattle.join_index.proofs.Orders.{range_left}
use Rattle.kept_rows.specs.Kept.{containing, RowIs, RowsKept}
use Rattle.kept_rows.specs.Keeping.{WordsRoom, row_stored, ShareThere, Shared, ListThere, ListKept}
use Rattle.kept_rows.proofs.RowLaws.{index_kept, row_moved, rows_grown, rows_stored, words_room}
use Rattle.kept_rows.proofs.RowLaws.{stored_slice, stored_frame, stored_size}

-- the left set at a place of the order stays
order_stays : {lay : Layout} {q : Query} {w : List ℕ} (v : List ℕ) (i : ℕ) → Index lay q w → i < length q.lefts
    → take lay.row_starts v ≡ take lay.row_starts w → left_in lay v i ≡ left_in lay w i
order_stays {lay} {q} {w} v i index below frame =
    frame_at 0 (lay.left_order + i) lay.row_starts w v
    (omega (arith, index.ground.ordered.within, below, index.ground.slots_below)) frame

-- some left sets have the row
pub record Sharing (lay : Layout) (w₀ : List ℕ) (lo hi from to : ℕ) (w : List ℕ) (i : ℕ) : Type 0 where
  pub size : length w ≡ length w₀
  pub frame : take lay.row_starts w ≡ take lay.row_starts w₀
  pub low : lo ≤ i
  pub rows : (q : Query) → ShareThere lay q w₀ lo hi from to → RowsKept lay q w to
  pub part : lay.rows ≤ from → slice from to w ≡ slice from to w₀

module _ {lay : Layout} {w₀ : List ℕ} {lo hi from to : ℕ} where
  module _ {w : List ℕ} {i : ℕ} (so : Sharing lay w₀ lo hi from to w i) where
    module _ {q : Query} (there : ShareThere lay q w₀ lo hi from to) (more : i < hi) where
      sharing_index : Index lay q w
      sharing_index = index_kept so.frame so.size there.index

      module _ {k : ℕ} (word : Word w (lay.left_order + i) k) where
        below : k < length q.lefts
        below =
            (range_left (record { index = sharing_index; some = more; within = there.within }) i more word).below

        own : RowIs lay q w to k from to
        own =
            let here = there.is i so.low more in
            subst (λ (n : ℕ). RowIs lay q w to n from to)
            (sym (word.is ∙ order_stays w i there.index (omega (arith, there.within, more)) so.frame))
            (row_moved (omega arith) refl refl (λ order high low. so.part low) here)

        pub sharing_room : WordsRoom lay k from to w
        sharing_room =
            words_room sharing_index.ground k from to below own.order (so.rows q there).high

        pub sharing_rows : RowsKept lay q (row_stored lay k from to w) to
        sharing_rows = rows_stored sharing_index.ground k from to below own (so.rows q there)

    -- one left set more
    pub sharing_step : {k : ℕ} {v : List ℕ} → SomeQuery (λ q. ShareThere lay q w₀ lo hi from to) → i < hi → Word w (lay.left_order + i) k
        → v ≡ row_stored lay k from to w → Sharing lay w₀ lo hi from to v (i + 1)
    sharing_step {k} some more word kept =
        let g = (sharing_index some.holds more).ground in
        let here = below some.holds more word in
        rw kept
        (record {
          size = stored_size g k from to here ∙ so.size;
          frame = stored_frame g k from to here ∙ so.frame;
          low = omega (arith, so.low);
          rows = λ q there. sharing_rows there more word;
          part = λ low. stored_slice g k from to here from to low ∙ so.part low;
        })

-- a copy of the part at the end of the rows is the row of the left sets
module _ {lay : Layout} {w : List ℕ} {lo hi from to top : ℕ} where
  pub copy_room : {q : Query} → ListThere lay q w lo hi from to top → to - from ≤ lay.end - top → Behind from to top w
  copy_room there fits =
      let g = there.index.ground in
      record {
        low = omega (arith, there.below, g.row_starts_within, g.row_ends_within, there.rows.low);
        room = omega (arith, fits, there.rows.high, g.end_within);
      }

  module _ {w' : List ℕ} {r : ℕ} (copied : Copied from to top w w' r) where
    copy_frame : {q : Query} → ListThere lay q w lo hi from to top → take lay.row_starts w' ≡ take lay.row_starts w
    copy_frame there =
        let g = there.index.ground in
        frame_less lay.row_starts top w w'
        (omega (arith, g.row_starts_within, g.row_ends_within, there.rows.low)) copied.changed.low

    pub copy_shared : {q : Query} → ListThere lay q w lo hi from to top → to - from ≤ lay.end - top
        → ShareThere lay q w' lo hi top r
    copy_shared {q} there fits =
        let frame = copy_frame there in
        record {
          index = index_kept frame copied.changed.size there.index;
          rows =
              rows_grown there.index.ground copied.changed.low (omega (arith, copied.past))
              (omega (arith, copied.past, fits, there.rows.high)) there.rows;
          within = there.within;
          is = λ i low high.
              record {
                low = there.rows.low;
                order = omega (arith, copied.past);
                high = omega arith;
                is = copied.is ∙ sym (there.is i low high)
                    ∙ ap (containing q) (sym (order_stays w' i there.index (omega (arith, there.within, high)) frame));
              };
        }

    pub list_kept : {v : List ℕ} → SomeQuery (λ q. ListThere lay q w lo hi from to top) → to - from ≤ lay.end - top
        → Shared lay w' lo hi top r v → ListKept lay w lo hi from to top v r
    list_kept some fits shared =
        record {
          size = shared.size ∙ copied.changed.size;
          frame = shared.frame ∙ copy_frame some.holds;
          rows = λ q there. shared.rows q (copy_shared there fits);
        }

  -- nothing is kept
  pub list_same : ListKept lay w lo hi from to top w top
  list_same = record { size = refl; frame = refl; rows = λ q there. there.rows }
