-- `pool_scan::right_slots::number_slot` meets its contract: the used numbers below are those before the block, those of the block before the word, and
-- those of the word below the number (`slot_parts`). A slot is at most its number, so that the sums fit.
use Rattle.std.proofs.Common.{◌≡◌, ◌+◌, ◌*◌, ◌/◌, get_or, arith}
use Rattle.pool_scan.specs.right_slots.Slots.{number_slot}
use Rattle.pool_scan.proofs.right_slots.Counted.{slot_bound, slot_parts}
use Rattle.pool_scan.proofs.right_slots.number_slot.Goals as goal
use Rattle.pool_scan.proofs.right_slots.number_slot.Goals.{After-ones_below-below}

pub overflow_cast-start : goal.overflow_cast-start
overflow_cast-start c =
    let a = c.args in
    let block = a.number / 128 in
    record {
      fits = omega (
        arith,
        c.ranges.number.fits,
        c.requires.at block (omega (arith, c.ranges.number.fits)),
        slot_bound a.used.now (128 * block),
      );
    }

-- the sum is the slot
total : (c : After-ones_below-below)
    → let a = c.args in
    get_or a.counts.now (a.number / 128) 0 + c.ones_before-before.result + c.ones_below-below.result
    ≡ number_slot a.used.now a.number
total c =
    let a = c.args in
    let first = c.requires.at (a.number / 128) (omega (arith, c.ranges.number.fits)) in
    slot_parts a.used.now a.number (get_or a.counts.now (a.number / 128) 0) c.ones_before-before.result
    c.ones_below-below.result first c.ones_before-before.ensures c.ones_below-below.ensures

pub overflow_add-result : goal.overflow_add-result
overflow_add-result c =
    record { fits = omega (arith, c.ranges.number.fits, total (goal.at.overflow_add-result c).After-ones_below-below, slot_bound c.args.used.now c.args.number) }

pub overflow_add-result-2 : goal.overflow_add-result-2
overflow_add-result-2 c =
    record { fits = omega (arith, c.ranges.number.fits, total (goal.at.overflow_add-result-2 c).After-ones_below-below, slot_bound c.args.used.now c.args.number) }

pub returns : goal.returns
returns c = total (goal.at.returns c).After-ones_below-below
