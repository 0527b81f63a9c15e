-- `pool_scan::scan_second` meets its contract. The invariant: what the counts, the repeats, the index, the slots and the noted numbers say of the
-- records seen, and that the first fault and the first set too long of the others are the file's (`Passing`). The measure is how
-- many bytes are left.
use Rattle.std.proofs.Common.{◌-◌, length}
use Rattle.pool_scan.proofs.Passing.{Passing}
use Rattle.pool_scan.proofs.scan_second.Given as goal

abbrev pub invariant-loop-side : goal.invariant-loop-side
invariant-loop-side l = Passing l.first l.second l.noted l.used l.index l.slots l.counted l.at

abbrev pub decreases-loop-side : goal.decreases-loop-side
decreases-loop-side l = length l.second - l.at
