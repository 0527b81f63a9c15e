-- `read_number` is safe: the number stays within its bound.
use Rattle.std.proofs.Common.{◌≤◌}
use Rattle.tag_file_main.proofs.reading.read_number.Given as goal

abbrev pub invariant-loop-i : goal.invariant-loop-i
invariant-loop-i l = l.v ≤ l.most
