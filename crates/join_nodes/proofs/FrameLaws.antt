-- What stays the same at a node while only slots from its last rank on change: the index, the offsets, and the order's ranges.
use Prim.Native.Nat.{ℕ, ◌+◌, ◌≤◌, ◌<◌}
use mathlib.Core.Path.{◌≡◌, refl, ap, ◌∙◌}
use mathlib.Core.List.{List}
use native.Mathlib.Omega.{arith}
use lib.ListN.{length, take}
use Rattle.lists.proofs.Slices.{frame_less, frame_at, frame-slice}
use Rattle.join_spec.specs.Query.{Query}
use Rattle.join_index.specs.Ground.{offset_of}
use Rattle.join_index.specs.declared.Layout.{Layout}
use Rattle.join_index.specs.Asking.{Index}
use Rattle.join_index.specs.Ranges.{lefts_in}
use Rattle.join_index.proofs.Reading.{index_frame}
use Rattle.join_nodes.specs.Narrowing.{slot_of}
use Rattle.join_nodes.specs.Visiting.{Framed}

-- the kept rows lie within the work list, and every slot below them
pub rows_inside : {lay : Layout} {q : Query} {w : List ℕ} → Index lay q w → lay.row_starts ≤ length w
rows_inside index =
    let g = index.ground in omega (arith, g.row_starts_within, g.row_ends_within, g.rows_within, g.end_within)

pub slot_low : {lay : Layout} {q : Query} {w : List ℕ} {r : ℕ} → Index lay q w → r < q.T → slot_of lay w r ≤ lay.row_starts
slot_low {r = r} index below = omega (arith, index.ground.slot_within r below, (index.ground.inverted r below).rise)

module _ {lay : Layout} {q : Query} {w w' : List ℕ} {slot : ℕ} (index : Index lay q w) (framed : Framed slot w w')
    (low : lay.slots ≤ slot) where
  base : take lay.slots w' ≡ take lay.slots w
  base = frame_less lay.slots slot w w' low framed.frame

  pub index_framed : Index lay q w'
  index_framed = index_frame base framed.size index

  pub offset_framed : (r : ℕ) → r ≤ q.T → offset_of lay w' r ≡ offset_of lay w r
  offset_framed r h = frame_at 0 (lay.offsets + r) lay.slots w w' (omega (arith, index.ground.offsets_within)) base

  pub slot_framed : (r : ℕ) → r ≤ q.T → slot_of lay w' r ≡ slot_of lay w r
  slot_framed r h = ap (λ (n : ℕ). lay.slots + n) (offset_framed r h)

  pub range_framed : (lo hi : ℕ) → hi ≤ length q.lefts → lefts_in lay w' lo hi ≡ lefts_in lay w lo hi
  range_framed lo hi few =
      frame-slice (lay.left_order + lo) (lay.left_order + hi) lay.slots w w' (omega (arith, index.ground.ordered.within)) base

pub framed_none : (slot : ℕ) (w : List ℕ) → Framed slot w w
framed_none slot w = record { size = refl; frame = refl }

-- one change after another, seen from the lower slot
pub framed_then : {low high : ℕ} {w v u : List ℕ} → low ≤ high → Framed low w v → Framed high v u → Framed low w u
framed_then {low} {high} {w} {v} {u} less first second =
    record {
      size = second.size ∙ first.size;
      frame = frame_less low high v u less second.frame ∙ first.frame;
    }

pub framed_lower : {low high : ℕ} {w v : List ℕ} → low ≤ high → Framed high w v → Framed low w v
framed_lower {low} {high} {w} {v} less framed =
    record { size = framed.size; frame = frame_less low high w v less framed.frame }
