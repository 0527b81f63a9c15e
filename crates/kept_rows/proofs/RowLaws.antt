-- The kept rows while the work list changes: below them, above them, and in the two words of a left set.
use Prim.Native.Nat.{ℕ, ◌+◌, ◌≤◌, ◌<◌}
use mathlib.Core.Path.{◌≡◌, sym, ap₂, subst, ◌∙◌}
use mathlib.Core.List.{List}
use native.Mathlib.Omega.{arith}
use lib.Dec.{eqb}
use lib.ListN.{length, set, take, drop, length-set}
use lib.Seq.{get_or-set_same, get_or-set_other, take-set-le}
use borrow.Author.Tests.{eqb-true, eqb-false}
use Rattle.lists.specs.Lists.{slice}
use Rattle.lists.proofs.Bools.{by_test}
use Rattle.lists.proofs.Slices.{rest_at, rest-slice, frame_less, frame_at, frame-slice, slice-set_below}
use Rattle.join_spec.specs.Query.{Query}
use Rattle.join_index.specs.declared.Layout.{Layout}
use Rattle.join_index.specs.Ground.{Ground}
use Rattle.join_index.specs.Asking.{Index}
use Rattle.join_index.proofs.Reading.{index_frame}
use Rattle.kept_rows.specs.Kept.{row_start, row_end, RowIs, RowsKept}
use Rattle.kept_rows.specs.Keeping.{WordsRoom, row_stored}

-- a row stands in another list, under other names for its places
pub row_moved : {lay : Layout} {q : Query} {w v : List ℕ} {top high k a b from to : ℕ} → top ≤ high → a ≡ from → b ≡ to
    → (from ≤ to → to ≤ top → lay.rows ≤ from → slice from to v ≡ slice from to w) → RowIs lay q w top k from to
    → RowIs lay q v high k a b
row_moved {lay} {q} {w} {v} {top} {high} {k} {a} {b} {from} {to} more same_from same-to same row =
    record {
      low = omega (arith, row.low);
      order = omega (arith, row.order);
      high = omega (arith, row.high);
      is = ap₂ (λ (f t : ℕ). slice f t v) same_from same-to ∙ same row.order row.high row.low ∙ row.is;
    }

-- the index stays while nothing below the rows' words changes
pub index_kept : {lay : Layout} {q : Query} {w v : List ℕ} → take lay.row_starts v ≡ take lay.row_starts w
    → length v ≡ length w → Index lay q w → Index lay q v
index_kept {lay} {q} {w} {v} frame size index =
    index_frame (frame_less lay.slots lay.row_starts w v index.ground.slots_below frame) size index

module _ {lay : Layout} {q : Query} {w : List ℕ} (g : Ground lay q w) where
  -- they stay while nothing from their words on changes
  pub rows_framed : {v : List ℕ} {top : ℕ} → drop lay.row_starts v ≡ drop lay.row_starts w → RowsKept lay q w top
      → RowsKept lay q v top
  rows_framed {v} {top} frame rows =
      record {
        low = rows.low;
        high = rows.high;
        row = λ k below some.
            let start : row_start lay v k ≡ row_start lay w k =
            rest_at 0 lay.row_starts (lay.row_starts + k) w v (omega arith) frame in
            let end : row_end lay v k ≡ row_end lay w k =
            rest_at 0 lay.row_starts (lay.row_ends + k) w v (omega (arith, g.row_starts_within)) frame in
            row_moved (omega arith) start end
            (λ order high low.
            rest-slice lay.row_starts (row_start lay w k) (row_end lay w k) w v
            (omega (arith, low, g.row_starts_within, g.row_ends_within)) frame)
            (rows.row k below (omega (arith, start, some)));
      }

  -- and while only words from their end on change, up to a later end
  pub rows_grown : {v : List ℕ} {top more : ℕ} → take top v ≡ take top w → top ≤ more → more ≤ lay.end → RowsKept lay q w top
      → RowsKept lay q v more
  rows_grown {v} {top} {more} frame later within rows =
      record {
        low = omega (arith, rows.low);
        high = within;
        row = λ k below some.
            let start : row_start lay v k ≡ row_start lay w k =
            frame_at 0 (lay.row_starts + k) top w v
            (omega (arith, below, rows.low, g.row_starts_within, g.row_ends_within)) frame in
            let end : row_end lay v k ≡ row_end lay w k =
            frame_at 0 (lay.row_ends + k) top w v (omega (arith, below, rows.low, g.row_ends_within)) frame in
            row_moved later start end
            (λ order high low. frame-slice (row_start lay w k) (row_end lay w k) top w v high frame)
            (rows.row k below (omega (arith, start, some)));
      }

  -- no row is kept
  pub rows_none : ((k : ℕ) → k < length q.lefts → row_start lay w k ≡ 0) → RowsKept lay q w lay.rows
  rows_none none =
      record {
        low = omega arith;
        high = g.rows_within;
        row = λ k below some. absurd (omega (arith, none k below, some));
      }

  -- the words of one left set
  module _ (k from to : ℕ) (here : k < length q.lefts) where
    abbrev v : List ℕ
    v = row_stored lay k from to w

    -- what the two words are not, stays
    pub stored_slice : (f t : ℕ) → lay.rows ≤ f → slice f t v ≡ slice f t w
    stored_slice f t low =
        slice-set_below f t (set w (lay.row_starts + k) from) (lay.row_ends + k) to
        (omega (arith, here, low, g.row_ends_within))
        ∙ slice-set_below f t w (lay.row_starts + k) from (omega (arith, here, low, g.row_starts_within, g.row_ends_within))

    pub stored_frame : take lay.row_starts v ≡ take lay.row_starts w
    stored_frame =
        take-set-le lay.row_starts (set w (lay.row_starts + k) from) (lay.row_ends + k) to
        (omega (arith, g.row_starts_within))
        ∙ take-set-le lay.row_starts w (lay.row_starts + k) from (omega arith)

    start_own : row_start lay v k ≡ from
    start_own =
        get_or-set_other (set w (lay.row_starts + k) from) (lay.row_ends + k) (lay.row_starts + k) to 0
        (λ e. omega (arith, e, here, g.row_starts_within))
        ∙ get_or-set_same w (lay.row_starts + k) from 0
        (omega (arith, here, g.row_starts_within, g.row_ends_within, g.rows_within, g.end_within))

    end_own : row_end lay v k ≡ to
    end_own =
        get_or-set_same (set w (lay.row_starts + k) from) (lay.row_ends + k) to 0
        (omega (
          arith,
          length-set w (lay.row_starts + k) from,
          here,
          g.row_starts_within,
          g.row_ends_within,
          g.rows_within,
          g.end_within,
        ))

    module _ (j : ℕ) (there : j < length q.lefts) (other : j ≡ k → ⊥) where
      start_other : row_start lay v j ≡ row_start lay w j
      start_other =
          get_or-set_other (set w (lay.row_starts + k) from) (lay.row_ends + k) (lay.row_starts + j) to 0
          (λ e. omega (arith, e, there, g.row_starts_within))
          ∙ get_or-set_other w (lay.row_starts + k) (lay.row_starts + j) from 0 (λ e. other (omega (arith, e)))

      end_other : row_end lay v j ≡ row_end lay w j
      end_other =
          get_or-set_other (set w (lay.row_starts + k) from) (lay.row_ends + k) (lay.row_ends + j) to 0
          (λ e. other (omega (arith, e)))
          ∙ get_or-set_other w (lay.row_starts + k) (lay.row_ends + j) from 0
          (λ e. omega (arith, e, here, g.row_starts_within))

    pub stored_size : length v ≡ length w
    stored_size =
        length-set (set w (lay.row_starts + k) from) (lay.row_ends + k) to ∙ length-set w (lay.row_starts + k) from

    -- there are words for it
    pub words_room : from ≤ to → to ≤ lay.end → WordsRoom lay k from to w
    words_room order within =
        record {
          start = omega (arith, here, g.row_starts_within, g.row_ends_within, g.rows_within, g.end_within);
          end = omega (arith, here, g.row_ends_within, g.rows_within, g.end_within);
          from_small = omega (arith, order, within, g.end_small);
          to_small = omega (arith, within, g.end_small);
        }

    -- one row more
    pub rows_stored : {top : ℕ} → RowIs lay q w top k from to → RowsKept lay q w top → RowsKept lay q v top
    rows_stored {top} row rows =
        record {
          low = rows.low;
          high = rows.high;
          row = λ j there some.
              by_test (eqb j k)
              (λ e.
              subst (λ (n : ℕ). RowIs lay q v top n (row_start lay v n) (row_end lay v n)) (sym (eqb-true j k e))
              (row_moved (omega arith) start_own end_own (λ order high low. stored_slice from to low) row))
              (λ e.
              let start = start_other j there (eqb-false j k e) in
              row_moved (omega arith) start (end_other j there (eqb-false j k e))
              (λ order high low. stored_slice (row_start lay w j) (row_end lay w j) low)
              (rows.row j there (omega (arith, start, some))));
        }
