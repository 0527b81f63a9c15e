-- `validation::permutations::all_distinct` meets its contract. The invariant: what was met twice so far and the pass over the ranks that are
-- left, with the marks made so far, decide the pass over all.
use mathlib.Core.Path.{◌≡◌}
use mathlib.Core.Bool.{◌&&◌}
use lib.Dec.{eqb}
use lib.ListN.{drop}
use Rattle.validation.proofs.permutations.Fresh.{fresh_in}
use Rattle.validation.proofs.permutations.all_distinct.Given as goal

abbrev pub invariant-loop-x : goal.invariant-loop-x
invariant-loop-x l = (eqb l.again 0 && fresh_in l.seen (drop l.x-index l.ranks)) ≡ fresh_in l.initial.seen l.ranks
