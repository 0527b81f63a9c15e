-- `visit_partitions` meets its contract, by the law of part after part. The measure is how many left sets are to come.
use Prim.Native.Nat.{◌-◌}
use Rattle.words.specs.flags.Flags.{Clear}
use Rattle.join_nodes.proofs.PartLoop.{Continuing}
use Rattle.join_walk.specs.Partitions.{Partitions}
use Rattle.join_walk.proofs.visit_partitions.Given as goal

abbrev pub invariant-loop-i : goal.invariant-loop-i
invariant-loop-i l =
    Continuing l.lay l.st.budget 1 l.hi (λ path w. l.lay.slots) (λ q path w i r. Partitions l.lay l.st q w i l.hi r) l.initial.work l.lo l.initial.r l.work l.i l.r
    × Clear l.flags

abbrev pub decreases-loop-i : goal.decreases-loop-i
decreases-loop-i l = l.hi - l.i
