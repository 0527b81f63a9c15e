-- `pool_scan::right_slots::put_places` meets its contract. The invariant: the right sets seen have their places in their slots (`SlotPlacing`). The
-- measure is how many bytes are left.
use Rattle.std.proofs.Common.{◌-◌, length}
use Rattle.pool_scan.proofs.right_slots.SlotPlacing.{SlotPlacing}
use Rattle.pool_scan.proofs.right_slots.put_places.Given as goal

abbrev pub invariant-loop-side : goal.invariant-loop-side
invariant-loop-side l = SlotPlacing l.file l.used l.slots l.at

abbrev pub decreases-loop-side : goal.decreases-loop-side
decreases-loop-side l = length l.file - l.at
