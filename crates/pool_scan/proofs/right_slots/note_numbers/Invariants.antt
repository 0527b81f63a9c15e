-- `pool_scan::right_slots::note_numbers` meets its contract. The invariant: the numbers of the right sets seen are the members (`Noting`). The
-- measure is how many bytes are left.
use Rattle.std.proofs.Common.{◌-◌, length}
use Rattle.pool_scan.proofs.right_slots.Noting.{Noting}
use Rattle.pool_scan.proofs.right_slots.note_numbers.Given as goal

abbrev pub invariant-loop-side : goal.invariant-loop-side
invariant-loop-side l = Noting l.file l.used l.at

abbrev pub decreases-loop-side : goal.decreases-loop-side
decreases-loop-side l = length l.file - l.at
