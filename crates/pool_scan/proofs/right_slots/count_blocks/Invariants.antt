-- `pool_scan::right_slots::count_blocks` meets its contract. The invariant: the blocks passed have their counts, and the total is that of the next
-- (`Counting`).
use Rattle.pool_scan.proofs.right_slots.Counting.{Counting}
use Rattle.pool_scan.proofs.right_slots.count_blocks.Given as goal

abbrev pub invariant-loop-b : goal.invariant-loop-b
invariant-loop-b l = Counting l.used l.counts l.total l.b
