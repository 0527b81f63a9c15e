-- `join_check::keys::longest_range` meets its contract. The invariant: place i is a border, and one of the ranges before it is found. The
-- measure is how many left sets are still to be looked at.
use Prim.Native.Nat.{◌-◌}
use Rattle.join_check.specs.keys.Borders.{Border, RangeFound}
use Rattle.join_check.proofs.keys.longest_range.Given as goal

abbrev pub invariant-loop-i : goal.invariant-loop-i
invariant-loop-i l = Border l.lay l.work l.d l.lo l.hi l.i × RangeFound l.lay l.work l.d l.lo l.hi l.best

abbrev pub decreases-loop-i : goal.decreases-loop-i
decreases-loop-i l = l.hi - l.i
