-- `join_pairs::shortlists::pivot` meets its contract. The invariant: the rank is one of those passed.
use mathlib.Core.Path.{◌≡◌}
use mathlib.Core.Bool.{true}
use Rattle.lists.specs.Lists.{memb}
use Rattle.join_pairs.proofs.shortlists.pivot.Given as goal

abbrev pub invariant-loop-word : goal.invariant-loop-word
invariant-loop-word l = memb l.rank l.ranks ≡ true
