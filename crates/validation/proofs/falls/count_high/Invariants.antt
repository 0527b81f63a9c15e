-- `validation::falls::count_high` meets its contract. The invariant: what was counted and what is left to count are the whole.
use mathlib.Core.Path.{◌≡◌}
use Prim.Native.Nat.{◌+◌}
use lib.Dec.{leb}
use lib.ListN.{drop}
use Rattle.lists.specs.Lists.{count}
use Rattle.validation.proofs.falls.count_high.Given as goal

abbrev pub invariant-loop-x : goal.invariant-loop-x
invariant-loop-x l = l.high + count (leb l.t) (drop l.x-index l.x-items) ≡ count (leb l.t) l.x-items
