-- `first_search::search` meets its contract. The invariant: what is left of the left sets decides, and is good.
use Rattle.sets.specs.Collections.{lent_sets}
use Rattle.first_search.proofs.Searching.{Searching}
use Rattle.first_search.proofs.search.Given as goal

abbrev pub invariant-loop-k : goal.invariant-loop-k
invariant-loop-k l = Searching (lent_sets l.left) l.marks l.k l.start
