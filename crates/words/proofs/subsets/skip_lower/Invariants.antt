-- `words::subsets::skip_lower` meets its contract. The invariant: what remains of the second part rises, and decides containment of
-- the first. The measure is what remains of the second part.
use Prim.Native.Nat.{◌-◌}
use Rattle.words.proofs.Advancing.{Passing}
use Rattle.words.proofs.subsets.skip_lower.Given as goal

abbrev pub invariant-loop-j : goal.invariant-loop-j
invariant-loop-j l = Passing l.work l.a l.b l.c l.e l.x l.j

abbrev pub decreases-loop-j : goal.decreases-loop-j
decreases-loop-j l = l.e - l.j
