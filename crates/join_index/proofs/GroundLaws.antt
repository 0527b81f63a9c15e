-- What the regions of the work list keep while only words from the slots on change; and that the offsets of the inverted lists
-- rise.
use Prim.Native.Nat.{ℕ, zero, suc, ◌+◌, ◌-◌, ◌*◌, ◌≤◌, ◌<◌}
use mathlib.Core.Path.{◌≡◌, refl, ap, ◌∙◌}
use mathlib.Core.List.{List}
use mathlib.Core.Bool.{true}
use native.Mathlib.Nat.{add-zero, add-suc}
use native.Mathlib.Omega.{arith}
use lib.ListN.{length, take, get_or}
use Rattle.lists.specs.Lists.{count, slice}
use Rattle.lists.proofs.Slices.{frame_at, frame-slice}
use Rattle.join_spec.specs.Query.{Query}
use Rattle.counting_sort.proofs.Regions.{holds_frame}
use Rattle.signatures.proofs.SigningSets.{double_stays}
use Rattle.side_index.specs.keys.SetKeys.{start_of}
use Rattle.join_index.specs.Ground.{Ground, offset_of, seen_count, asks_seen}
use Rattle.join_index.specs.declared.Layout.{Layout}

module _ (w v : List ℕ) (top : ℕ) (kept : take top v ≡ take top w) where
  same_at : (i : ℕ) → i < top → get_or v i 0 ≡ get_or w i 0
  same_at i h = frame_at 0 i top w v h kept

  same_start : (starts ranks k : ℕ) → starts + k < top → start_of v starts ranks k ≡ start_of w starts ranks k
  same_start starts ranks k h = ap (λ (n : ℕ). ranks + n) (same_at (starts + k) h)

module _ (lay : Layout) (q : Query) (w v : List ℕ) (kept : take lay.slots v ≡ take lay.slots w) (size : length v ≡ length w)
    (g : Ground lay q w) where
  same_seen : (r : ℕ) → r < q.T → seen_count lay v r ≡ seen_count lay w r
  same_seen r h = same_at w v lay.slots kept (lay.least_offsets + suc r) (omega (arith, g.least_offsets_within))

  same_offset : (r : ℕ) → r ≤ q.T → offset_of lay v r ≡ offset_of lay w r
  same_offset r h = same_at w v lay.slots kept (lay.offsets + r) (omega (arith, g.offsets_within))

  seen-slice : asks_seen q.rule ≡ true → (r : ℕ) → r < q.T
      → slice lay.by_least (lay.by_least + seen_count lay v r) v ≡ slice lay.by_least
      (lay.by_least + seen_count lay w r) w
  seen-slice asked r h =
      ap (λ (n : ℕ). slice lay.by_least (lay.by_least + n) v) (same_seen r h)
      ∙ frame-slice lay.by_least (lay.by_least + seen_count lay w r) lay.slots w v (g.seen_within asked r h) kept

  pub ground_frame : Ground lay q v
  ground_frame =
      record {
        left =
            λ k h. holds_frame kept
            (same_start w v lay.slots kept lay.left_starts lay.left_ranks k (omega (arith, g.left_starts_within)))
            (same_start w v lay.slots kept lay.left_starts lay.left_ranks (suc k)
            (omega (arith, g.left_starts_within)))
            (g.left k h);
        right =
            λ s h. holds_frame kept
            (same_start w v lay.slots kept lay.right_starts lay.right_ranks s (omega (arith, g.right_starts_within)))
            (same_start w v lay.slots kept lay.right_starts lay.right_ranks (suc s)
            (omega (arith, g.right_starts_within)))
            (g.right s h);
        left_signature =
            λ k h. double_stays lay.slots (lay.left_signatures + 2 * k) w v kept (omega (arith, g.left_signatures_within))
            ∙ g.left_signature k h;
        right_signature =
            λ s h. double_stays lay.slots (lay.right_signatures + 2 * s) w v kept (omega (arith, g.right_signatures_within))
            ∙ g.right_signature s h;
        inverted =
            λ r h. holds_frame kept
            (ap (λ (n : ℕ). lay.index + n) (same_offset r (omega arith)))
            (ap (λ (n : ℕ). lay.index + n) (same_offset (suc r) h))
            (g.inverted r h);
        seen_first = λ asked r h p. ap (λ (l : List ℕ). count p l) (seen-slice asked r h) ∙ g.seen_first asked r h p;
        ordered = holds_frame kept refl refl g.ordered;
        left_starts_within = g.left_starts_within;
        right_starts_within = g.right_starts_within;
        left_signatures_within = g.left_signatures_within;
        right_signatures_within = g.right_signatures_within;
        offsets_within = g.offsets_within;
        least_offsets_within = g.least_offsets_within;
        seen_within = λ asked r h. omega (arith, g.seen_within asked r h, same_seen r h);
        slots_below = g.slots_below;
        slot_within = λ r h. omega (arith, g.slot_within r h, same_offset (suc r) h);
        row_starts_within = g.row_starts_within;
        row_ends_within = g.row_ends_within;
        rows_above = g.rows_above;
        rows_within = g.rows_within;
        end_within = omega (arith, g.end_within, size);
        end_small = g.end_small;
        faithful = g.faithful;
        left_few = g.left_few;
        right_few = g.right_few;
        items_few = g.items_few;
      }

-- every slot lies within the work list
pub slot_bound : {lay : Layout} {q : Query} {w : List ℕ} → Ground lay q w → (r : ℕ) → r < q.T
    → lay.slots + offset_of lay w (suc r) ≤ length w
slot_bound g r h =
    omega (arith, g.slot_within r h, g.row_starts_within, g.row_ends_within, g.rows_within, g.end_within)

module _ (lay : Layout) (q : Query) (w : List ℕ) (g : Ground lay q w) where
  rise_by : (r d : ℕ) → r + d ≤ q.T → offset_of lay w r ≤ offset_of lay w (r + d)
  rise_by r zero h = rw add-zero (omega arith)
  rise_by r (suc d) h =
      let rest = rise_by r d (omega arith) in
      let here = (g.inverted (r + d) (omega arith)).rise in
      rw (add-suc r d) (omega arith)

  pub offsets_rise : (r x : ℕ) → r ≤ x → x ≤ q.T → offset_of lay w r ≤ offset_of lay w x
  offsets_rise r x low high =
      let there : r + (x - r) ≡ x = omega arith in
      rw there at (rise_by r (x - r) (omega arith))
