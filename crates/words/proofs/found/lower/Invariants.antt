-- `words::found::lower` meets its contract. The invariant: x goes between lo and hi. The measure is their distance.
use Prim.Native.Nat.{◌-◌}
use Rattle.words.proofs.found.Halving.{Halving}
use Rattle.words.proofs.found.lower.Given as goal

abbrev pub invariant-loop-lo : goal.invariant-loop-lo
invariant-loop-lo l = Halving l.x l.part l.lo l.hi

abbrev pub decreases-loop-lo : goal.decreases-loop-lo
decreases-loop-lo l = l.hi - l.lo
