-- `is_contained` meets its contract. An empty left set is turned away first. The invariant: containment of what is left of both sets
-- decides that of the whole, both rise, and of the left set something is left.
use Prim.Native.Nat.{◌<◌}
use lib.ListN.{length}
use Rattle.inputs.proofs.Containing.{Containing}
use Rattle.inputs.proofs.is_contained.Given as goal

abbrev pub invariant-loop-y : goal.invariant-loop-y
invariant-loop-y l = Containing l.left l.right l.i l.y-index × (l.i < length l.left)
