-- `validation::one_set::rises_below` meets its contract. The invariant: the test of the items that are left, from `least` on,
-- decides that of all.
use mathlib.Core.Path.{◌≡◌}
use lib.ListN.{drop}
use Rattle.validation.proofs.one_set.Rises.{rises_from}
use Rattle.validation.proofs.one_set.rises_below.Given as goal

abbrev pub invariant-loop-x : goal.invariant-loop-x
invariant-loop-x l = rises_from l.t l.least (drop l.x-index l.items) ≡ rises_from l.t 0 l.items
