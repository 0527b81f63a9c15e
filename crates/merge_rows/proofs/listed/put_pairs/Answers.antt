use Prim.Native.Nat.{ℕ, ◌+◌, ◌-◌, ◌<◌, ◌≤◌}
use mathlib.Core.Path.{◌≡◌, ap, ◌∙◌}
use mathlib.Core.List.{List, [], ◌∷◌, ◌++◌}
use native.Mathlib.Omega.{arith}
use lib.Bits.{bit_and, and_le_l}
use lib.Count.{count_trailing_zeros, trailing_le}
use lib.ListN.{length, set, length-set}
use Rattle.lists.specs.Writing.{Put}
use Rattle.lists.proofs.Writing.{writing_start, writing_room, writing_step, writing_end}
use Rattle.bit_sets.specs.BitSets.{digits_from}
use Rattle.bit_sets.proofs.Digits.{digits_none}
use Rattle.bit_sets.proofs.Lowest.{digits_lowest}
use Rattle.merge_rows.specs.ShortLists.{pairs_with}
use Rattle.merge_rows.proofs.ShortWriting.{put_pair}
use Rattle.merge_rows.proofs.listed.put_pairs.Invariants.{PairsLeft}
use Rattle.merge_rows.proofs.listed.put_pairs.Goals as goal
use Rattle.merge_rows.proofs.listed.put_pairs.Goals.{In-loop-rest}

module _ {was : List ℕ} {at word k base : ℕ} {is : List ℕ} {rest end : ℕ} (left : PairsLeft was at word k base is rest end) where
  module _ (some : rest ≡ 0 → ⊥) where
    abbrev right : ℕ
    right = base + count_trailing_zeros 64 rest

    abbrev fewer : ℕ
    fewer = bit_and rest (rest - 1)

    lowest : digits_from 64 base rest ≡ right ∷ digits_from 64 base fewer
    lowest = digits_lowest 64 64 base rest (omega arith) (omega (arith, some)) left.small

    next : pairs_with k (digits_from 64 base rest) ≡ (k ∷ right ∷ []) ++ pairs_with k (digits_from 64 base fewer)
    unfolding pairs_with
    next = ap (pairs_with k) lowest

    pair-room : end + 2 ≤ length is
    pair-room = writing_room left.writing (k ∷ right ∷ []) (pairs_with k (digits_from 64 base fewer)) next

    pair_step : PairsLeft was at word k base (set (set is end k) (end + 1) right) fewer (end + 2)
    pair_step =
        record {
          writing = writing_step left.writing next (put_pair is end k right);
          small = omega (arith, and_le_l rest (rest - 1), left.small);
        }

    pair-fewer : length (digits_from 64 base fewer) < length (digits_from 64 base rest)
    pair-fewer = omega (arith, ap length lowest)

  pairs_end : rest ≡ 0 → Put was at (pairs_with k (digits_from 64 base word)) end is
  unfolding pairs_with
  pairs_end none = writing_end left.writing (ap (λ (r : ℕ). pairs_with k (digits_from 64 base r)) none ∙ ap (pairs_with k) (digits_none 64 base))

pub loop-rest-init : goal.loop-rest-init
loop-rest-init c =
    let a = c.args in
    record {
      writing = writing_start a.pairs.now a.at (pairs_with a.k (digits_from 64 a.base a.word)) c.requires.room;
      small = c.ranges.word.fits;
    }

-- a pair has room, and its right place fits
room_here : (c : In-loop-rest) → c.loop-rest.end + 2 ≤ length c.loop-rest.pairs
room_here c = pair-room c.loop-rest.invariant c.loop-rest-test.true

place_low : (c : In-loop-rest) → c.args.base + count_trailing_zeros 64 c.loop-rest.rest ≤ 4096
place_low c = omega (arith, c.requires.places.right, trailing_le 64 c.loop-rest.rest)

pub overflow_cast-pairs : goal.overflow_cast-pairs
overflow_cast-pairs c = omega (arith, c.requires.places.left)

pub offset_bounds-pairs-end : goal.offset_bounds-pairs-end
offset_bounds-pairs-end c = omega (arith, room_here (goal.at.offset_bounds-pairs-end c).In-loop-rest)

pub bounds-pairs-end : goal.bounds-pairs-end
bounds-pairs-end c = omega (arith, room_here (goal.at.bounds-pairs-end c).In-loop-rest)

pub overflow_cast-pairs-in-loop-rest : goal.overflow_cast-pairs-in-loop-rest
overflow_cast-pairs-in-loop-rest c = omega (arith, place_low (goal.at.overflow_cast-pairs-in-loop-rest c).In-loop-rest)

pub overflow_add-pairs : goal.overflow_add-pairs
overflow_add-pairs c = omega (arith, place_low (goal.at.overflow_add-pairs c).In-loop-rest)

pub overflow_cast-pairs-in-loop-rest-2 : goal.overflow_cast-pairs-in-loop-rest-2
overflow_cast-pairs-in-loop-rest-2 c = omega (arith, place_low (goal.at.overflow_cast-pairs-in-loop-rest-2 c).In-loop-rest)

pub overflow_add-pairs-in-loop-rest : goal.overflow_add-pairs-in-loop-rest
overflow_add-pairs-in-loop-rest c = omega (arith, room_here (goal.at.overflow_add-pairs-in-loop-rest c).In-loop-rest)

pub offset_bounds-pairs-end-in-loop-rest : goal.offset_bounds-pairs-end-in-loop-rest
offset_bounds-pairs-end-in-loop-rest c = omega (arith, room_here (goal.at.offset_bounds-pairs-end-in-loop-rest c).In-loop-rest)

pub bounds-pairs-end-in-loop-rest : goal.bounds-pairs-end-in-loop-rest
bounds-pairs-end-in-loop-rest c = simp length-set (omega (arith, room_here (goal.at.bounds-pairs-end-in-loop-rest c).In-loop-rest))

pub overflow_sub-rest : goal.overflow_sub-rest
overflow_sub-rest c = omega (arith, c.loop-rest-test.true)

pub overflow_add-end : goal.overflow_add-end
overflow_add-end c = omega (arith, room_here (goal.at.overflow_add-end c).In-loop-rest)

pub loop-rest-smaller : goal.loop-rest-smaller
loop-rest-smaller c = pair-fewer c.loop-rest.invariant c.loop-rest-test.true

pub loop-rest-preserved : goal.loop-rest-preserved
loop-rest-preserved c = pair_step c.loop-rest.invariant c.loop-rest-test.true

pub shape_of-pairs : goal.shape_of-pairs
shape_of-pairs c = c.loop-rest.invariant.writing.same

pub returns : goal.returns
returns c = pairs_end c.loop-rest.invariant c.loop-rest-test.false
