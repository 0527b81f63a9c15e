-- `words::subsets::skip_higher` meets its contract. The invariant: what remains of the second part rises, and decides
-- containment of the first. The measure is what remains of the second part.
use Prim.Native.Nat.{◌-◌}
use Rattle.words.proofs.Trimming.{Skipping}
use Rattle.words.proofs.subsets.skip_higher.Given as goal

abbrev pub invariant-loop-j : goal.invariant-loop-j
invariant-loop-j l = Skipping l.work l.a l.b l.c l.e l.x l.j

abbrev pub decreases-loop-j : goal.decreases-loop-j
decreases-loop-j l = l.j - l.c
