-- `merge_rows::rows::add_right` meets its contract. The invariant: the digits of the first items are set.
use lib.ListN.{take}
use Rattle.merge_rows.specs.Filled.{Added}
use Rattle.merge_rows.proofs.rows.add_right.Given as goal

abbrev pub invariant-loop-item : goal.invariant-loop-item
invariant-loop-item l = Added l.t l.s (take l.item-index l.set) l.initial.work l.work
