use native.Mathlib.Omega.{arith}
use Rattle.item_order.proofs.frequencies.Tallying.{tally_index, tally_room, tally_step, tally_end}
use Rattle.item_order.proofs.frequencies.tally.Goals as goal

pub bounds-counts-x : goal.bounds-counts-x
bounds-counts-x c = tally_index c.requires c.loop-x.invariant (omega arith)

pub overflow_add-counts : goal.overflow_add-counts
overflow_add-counts c =
    record { fits = tally_room c.requires c.loop-x.invariant (omega arith) }

pub bounds-counts-x-in-loop-x : goal.bounds-counts-x-in-loop-x
bounds-counts-x-in-loop-x c = tally_index c.requires c.loop-x.invariant (omega arith)

pub loop-x-preserved : goal.loop-x-preserved
loop-x-preserved c =
    tally_step c.requires c.loop-x.invariant (omega arith)

pub returns : goal.returns
returns c = tally_end c.loop-x.invariant c.loop-x-test.false
