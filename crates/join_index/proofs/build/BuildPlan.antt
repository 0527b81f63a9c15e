-- The plan of the build: the sizes of the input, and that the regions of the layout rise, with scratch words above them.
use Prim.Native.Nat.{ℕ, ◌+◌, ◌*◌, ◌≤◌, ◌<◌}
use mathlib.Core.Path.{◌≡◌, sym, ap, subst}
use mathlib.Core.List.{List}
use native.Mathlib.Omega.{arith}
use lib.ListN.{length}
use Rattle.sets.specs.Limits.{full_words}
use Rattle.sets.specs.Collections.{sets_in, entries}
use Rattle.sets.proofs.Good.{good_places, good_entries}
use Rattle.sets.proofs.Between.{length-sets}
use Rattle.sets.proofs.Permutation.{permutation_length}
use Rattle.counting_sort.specs.Sorting.{sorted_at}
use Rattle.side_index.specs.Side.{starts_at, ranks_at, side_end}
use Rattle.inputs.specs.Input.{Input}
use Rattle.join_index.specs.regions.Regions.{Sizes, LaidOut, left_base}
use Rattle.join_index.specs.build.Building.{BuildRoom}
use Rattle.join_index.specs.declared.Layout.{Layout}

-- a rank table has as many ranks as there are items
pub items_are : {i : Input} {ranks w : List ℕ} → BuildRoom i ranks w → length ranks ≡ i.T
items_are {i} {ranks} room = permutation_length i.T ranks room.permutation

-- the input whose count of items is given as that of the ranks
abbrev pub counted : Input → List ℕ → Input
counted i ranks = record i { T = length ranks }

pub by_length : {i : Input} {ranks w : List ℕ} → BuildRoom i ranks w → BuildRoom (counted i ranks) ranks w
by_length {i} {ranks} {w} room = subst (λ (n : ℕ). BuildRoom (record i { T = n }) ranks w) (sym (items_are room)) room

pub sizes : {i : Input} {ranks w : List ℕ} {nl nr : ℕ} → BuildRoom i ranks w → nl ≡ entries i.left.ends
    → nr ≡ entries i.right.ends → Sizes i.T (length i.left.ends) (length i.right.ends) nl nr
sizes {i} room left_entries right_entries =
    record {
      items = room.items;
      left_sets = good_places i.T i.left.ends i.left.items room.left_good;
      right_sets = good_places i.T i.right.ends i.right.items room.right_good;
      left_few = omega (arith, left_entries, (good_entries i.T i.left.ends i.left.items room.left_good).few);
      right_few = omega (arith, right_entries, (good_entries i.T i.right.ends i.right.items room.right_good).few);
    }

-- what is known once the regions are laid out
pub record Planned (i : Input) (ranks : List ℕ) (nl nr : ℕ) (lay : Layout) (w : List ℕ) : Type 0 where
  pub room : BuildRoom (counted i ranks) ranks w
  pub left_entries : nl ≡ entries i.left.ends
  pub right_entries : nr ≡ entries i.right.ends
  pub out : LaidOut (length ranks) (length i.left.ends) (length i.right.ends) nl nr (length w) lay

module _ {i : Input} {ranks w : List ℕ} {nl nr : ℕ} {lay : Layout} (p : Planned i ranks nl nr lay w) where
  abbrev T : ℕ
  T = length ranks

  abbrev lefts : List (List ℕ)
  lefts = sets_in i.left

  abbrev rights : List (List ℕ)
  rights = sets_in i.right

  out : LaidOut T (length i.left.ends) (length i.right.ends) nl nr (length w) lay
  out = p.out

  pub left_long : length lefts ≡ length i.left.ends
  left_long = length-sets 0 i.left.ends i.left.items

  pub right_long : length rights ≡ length i.right.ends
  right_long = length-sets 0 i.right.ends i.right.items

  pub plan_sizes : Sizes (length ranks) (length i.left.ends) (length i.right.ends) nl nr
  plan_sizes = sizes {i = counted i ranks} p.room p.left_entries p.right_entries

  -- the scratch words above the regions
  pub wide : lay.slots + (nl + nl) + (nr + nr) + (length i.left.ends + length i.left.ends) +
      (length i.right.ends + length i.right.ends) ≤ length w
  wide =
      omega (
        arith,
        p.room.room,
        p.left_entries,
        p.right_entries,
        out.offsets,
        out.least_offsets,
        out.by_least,
        out.order,
        out.right_signatures,
        out.left_signatures,
        out.slots,
      )

  -- the rows begin within the work list, at a place that fits a word
  pub rows_below : lay.rows ≤ lay.end
  rows_below =
      let words : lay.rows ≤ length w = omega (arith, wide, out.row_starts, out.row_ends, out.rows) in
      let small : lay.rows < full_words =
      omega (
        arith,
        plan_sizes,
        out.offsets,
        out.least_offsets,
        out.by_least,
        out.order,
        out.right_signatures,
        out.left_signatures,
        out.slots,
        out.row_starts,
        out.row_ends,
        out.rows,
      ) in
      out.end.greatest lay.rows words small

  -- the regions rise
  pub left_above : lay.right_ranks + nr ≡ left_base lay T (length i.right.ends) nr
  left_above = ap (λ (n : ℕ). n + nr) out.right_ranks

  pub least_below : lay.right_ranks + nr ≤ lay.least_offsets
  least_below = omega (arith, left_above, out.least_offsets)

  pub order_above : lay.least_offsets ≤ lay.by_least + length i.right.ends
  order_above = omega (arith, out.by_least)

  pub signed_above : sorted_at (lay.by_least + length i.right.ends) (T + 1) + length i.left.ends ≡ lay.right_signatures
  signed_above = omega (arith, out.order, out.right_signatures)

  pub slots_above : lay.right_signatures + 2 * length i.right.ends + 2 * length i.left.ends ≡ lay.slots
  slots_above = omega (arith, out.left_signatures, out.slots)

  -- where the sides lie
  pub right_end : lay.right_ranks + nr ≡ side_end lay.offsets T nr (length rights)
  right_end = omega (arith, out.right_ranks, right_long)

  pub right_ranks_lem : lay.right_ranks ≡ ranks_at lay.offsets T nr (length rights)
  right_ranks_lem = omega (arith, out.right_ranks, right_long)

  pub left_end : lay.least_offsets ≡ side_end (lay.right_ranks + nr) T nl (length lefts)
  left_end = omega (arith, left_above, out.least_offsets, left_long)

  pub left_starts_lem : lay.left_starts ≡ starts_at (lay.right_ranks + nr) T nl
  left_starts_lem = omega (arith, left_above, out.left_starts)

  pub left_ranks : lay.left_ranks ≡ ranks_at (lay.right_ranks + nr) T nl (length lefts)
  left_ranks = omega (arith, left_above, out.left_ranks, left_long)
