-- `validation::falls::count_falls` meets its contract. The invariant: the falls that were counted and those from here on are all.
use mathlib.Core.Path.{◌≡◌}
use Prim.Native.Nat.{◌+◌, ◌-◌}
use Rattle.lists.specs.Lists.{slice}
use Rattle.validation.specs.falls.Falls.{falls}
use Rattle.validation.proofs.falls.count_falls.Given as goal

abbrev pub invariant-loop-e : goal.invariant-loop-e
invariant-loop-e l = (l.falls + falls (slice (l.e - 1) l.n l.list) ≡ falls (slice 0 l.n l.list))
