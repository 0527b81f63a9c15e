-- `validation::falls::good_ends` meets its contract. The invariant: the test of the ends that are left decides that of all.
use mathlib.Core.Path.{◌≡◌}
use lib.ListN.{drop}
use Rattle.validation.specs.falls.Falls.{good_ends}
use Rattle.validation.proofs.falls.good_ends.Given as goal

abbrev pub invariant-loop-end : goal.invariant-loop-end
invariant-loop-end l = good_ends l.longest l.before (drop l.end-index l.ends) ≡ good_ends l.longest 0 l.ends
