-- `tag_scan::scan_records` meets its contract. The invariant: what the counts, the repeats, the index and the noted numbers say of the
-- records seen, and that the first fault of the others is the file's (`Scanning`). The measure is how many bytes are left.
use Prim.Native.Nat.{◌-◌}
use lib.ListN.{length}
use Rattle.tag_scan.proofs.Scanning.{Scanning}
use Rattle.tag_scan.proofs.scan_records.Given as goal

abbrev pub invariant-loop-side : goal.invariant-loop-side
invariant-loop-side l = Scanning l.file l.used l.index l.total l.repeats l.at

abbrev pub decreases-loop-side : goal.decreases-loop-side
decreases-loop-side l = length l.file - l.at
