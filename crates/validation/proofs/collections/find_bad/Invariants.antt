-- `validation::collections::find_bad` meets its contract. The invariant: the first bad place from k on is the first of all.
use mathlib.Core.Path.{◌≡◌}
use lib.ListN.{drop}
use Rattle.sets.specs.Collections.{first_bad_from, first_bad}
use Rattle.validation.proofs.collections.find_bad.Given as goal

abbrev pub invariant-loop-k : goal.invariant-loop-k
invariant-loop-k l = first_bad_from l.t l.k l.start (drop l.k l.sets.ends.now) l.sets.items.now ≡ first_bad l.t l.sets.ends.now l.sets.items.now
