use Prim.Native.Nat.{◌<◌}
use native.Mathlib.Omega.{arith}
use borrow.Author.Tests.{ltb-true}
use lib.Dec.{ltb}
use lib.ListN.{get_or}
use Rattle.lists.proofs.Throughout.{all_at}
use Rattle.merge_rows.proofs.FillSteps.{added_start, added_step}
use Rattle.merge_rows.proofs.rows.add_right.Goals as goal
use Rattle.merge_rows.proofs.rows.add_right.Goals.{In-loop-item, Start}

item_low : (c : In-loop-item)
    → get_or c.args.set.now c.loop-item.item-index 0 < c.args.t
item_low c =
    let a = c.args in
    ltb-true (get_or a.set.now c.loop-item.item-index 0) a.t
    (all_at (λ x. ltb x a.t) 0 a.set.now c.requires.items c.loop-item.item-index (omega arith))

pub loop-item-init : goal.loop-item-init
loop-item-init c = added_start

pub set_digit-requires : goal.set_digit-requires
set_digit-requires c =
    let room = c.requires.block.room in
    let size = c.loop-item.invariant.size in
    record { within = omega (arith, item_low (goal.at.set_digit-requires c).In-loop-item); below = omega arith }

pub set_digit-requires-in-loop-item : goal.set_digit-requires-in-loop-item
set_digit-requires-in-loop-item c =
    let block = c.requires.block in
    let size = c.loop-item.invariant.size in
    let long = c.set_digit.ensures.size in
    record { within = omega (arith, item_low (goal.at.set_digit-requires-in-loop-item c).In-loop-item, block.room); below = omega (arith, block.place) }

pub loop-item-preserved : goal.loop-item-preserved
loop-item-preserved c =
    let l = c.loop-item in
    added_step l.item-index c.args.set.now (omega arith) l.invariant c.set_digit.ensures c.set_digit-in-loop-item.ensures
