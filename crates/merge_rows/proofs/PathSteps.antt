-- A left set by its path: nothing where no block has all of it; and that a hint stored above the signatures changes nothing that is read.
use Prim.Native.Nat.{ℕ, ◌+◌, ◌*◌, ◌<◌, ◌≤◌}
use mathlib.Core.Path.{◌≡◌, ap₂, ◌∙◌}
use mathlib.Core.List.{List}
use native.Mathlib.Omega.{arith}
use lib.ListN.{length, get_or}
use Rattle.lists.specs.Lists.{slice}
use Rattle.lists.proofs.Slices.{frame_less, frame_at}
use Rattle.sets.specs.Collections.{Collection, sets_in}
use Rattle.sets.proofs.Between.{length-sets}
use Rattle.inputs.specs.Input.{Input, right_sets}
use Rattle.merge_rows.specs.declared.Met.{Met}
use Rattle.merge_rows.specs.declared.Regions.{Regions}
use Rattle.merge_rows.specs.Words.{ReadRoom}
use Rattle.merge_rows.specs.SignedSets.{Signs}
use Rattle.merge_rows.specs.Yields.{Yield, yield_of, candidates_of, Yielded}
use Rattle.merge_rows.specs.Meeting.{Laid, Ground, Blocks, PathThere, CountersHeld, CountersThere, KeptBelow}
use Rattle.merge_rows.proofs.RowReads.{Shares, sums_room, shared_sums, ground_below}
use Rattle.merge_rows.proofs.YieldLaws.{yield_size, candidates_few}
use Rattle.merge_rows.proofs.BlockSteps.{few_rights, blocks_start, blocks_end}

-- words below a change
counters_below : {counters j at lo : ℕ} {w w' pairs : List ℕ} {y : Yield} → counters + 3 * j + 6 ≤ lo → KeptBelow lo w w'
    → CountersHeld counters j w at pairs y → CountersHeld counters j w' at pairs y
counters_below {counters} {j} {at} {lo} {w} {w'} {pairs} {y} within kept held =
    record {
      after = omega (arith, here, next, held.after);
      dropped =
          omega (arith, same (counters + 3 * j + 1) (omega arith), same (counters + 3 * (j + 1) + 1) (omega arith), held.dropped);
      falses =
          omega (arith, same (counters + 3 * j + 2) (omega arith), same (counters + 3 * (j + 1) + 2) (omega arith), held.falses);
      before = omega (arith, next, held.before);
      listed = λ fits. ap₂ (λ (a b : ℕ). slice a b pairs) here next ∙ held.listed fits;
    }
  where
    same : (i : ℕ) → i < lo → get_or w' i 0 ≡ get_or w i 0
    same i below = frame_at 0 i lo w w' below kept.low

    here : get_or w' (counters + 3 * j) 0 ≡ get_or w (counters + 3 * j) 0
    here = same (counters + 3 * j) (omega arith)

    next : get_or w' (counters + 3 * (j + 1)) 0 ≡ get_or w (counters + 3 * (j + 1)) 0
    next = same (counters + 3 * (j + 1)) (omega arith)

module _ {r : Regions} {T : ℕ} {sets : Collection} {w : List ℕ} {k : ℕ} {path more : List ℕ} {m : Met} (there : PathThere r T sets w k path more m) where
  pub path_sums : ReadRoom 0 path w
  path_sums = sums_room there.ground.rows path there.along

  pub path_blocks : (blocks : ℕ) → Shares w 0 path 18446744073709551615 blocks → Blocks (sets_in sets) path blocks
  path_blocks blocks shares =
      shared_sums there.ground.rows path blocks there.some there.along
      (omega (arith, few_rights there.ground, length-sets 0 sets.ends sets.items)) shares

  -- no block has all of it
  pub path_nothing : {blocks : ℕ} (pairs : List ℕ) → Blocks (sets_in sets) path blocks → blocks ≡ 0
      → Yielded k (yield_of (sets_in sets) path more) m m pairs pairs
  path_nothing pairs named none = blocks_end there (blocks_start there pairs named (omega arith)) none

-- a hint was stored
module _ {r : Regions} {i : Input} {w w' : List ℕ} {k : ℕ} {path more : List ℕ} {m : Met}
    (there : PathThere r i.T i.right w k path more m) (laid : Laid r i w) (kept : KeptBelow r.hints w w') where
  hinted : Ground r i.T i.right w'
  hinted = ground_below r.hints laid.hints there.ground kept

  pub path_hinted : PathThere r i.T i.right w' k path more m
  path_hinted =
      record {
        ground = hinted;
        left = there.left;
        along = there.along;
        some = there.some;
        besides = there.besides;
        room = there.room;
      }

  pub hint_signs : Signs r.signatures (right_sets i) w w'
  hint_signs =
      record {
        low = frame_less r.signatures r.hints w w' (omega (arith, laid.hints)) kept.low;
        size = kept.size;
        signed = hinted.signed;
      }

  -- the counters of an earlier left set are still there, and there is room for its yield again
  module _ {j : ℕ} {pairs : List ℕ} (before : j < k) (place : k < length i.left.ends)
      (held : CountersHeld r.counters j w m.at pairs (yield_of (right_sets i) path more)) where
    pub counters_hinted : CountersHeld r.counters j w' m.at pairs (yield_of (right_sets i) path more)
    counters_hinted = counters_below (omega (arith, laid.signatures, laid.hints)) kept held

    pub counters_there : CountersThere r.counters j k m w' pairs
    counters_there =
        let size = yield_size (right_sets i) more (candidates_of (right_sets i) path) in
        let few = candidates_few (right_sets i) path in
        let sets = length-sets 0 i.right.ends i.right.items in
        record {
          y = yield_of (right_sets i) path more;
          held = counters_hinted;
          left = there.left;
          within = omega (arith, laid.signatures, laid.hints, laid.end, kept.size);
          room =
              record {
                at = omega (arith, there.room.at);
                dropped = omega (arith, there.room.dropped);
                falses = omega (arith, there.room.falses);
              };
        }
