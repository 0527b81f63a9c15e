-- `read_number` is safe: the number stays below 2 to the 32.
use Prim.Native.Nat.{◌<◌}
use Rattle.join_main.proofs.read_number.Given as goal

abbrev pub invariant-loop-i : goal.invariant-loop-i
invariant-loop-i l = l.v < 4294967296
