-- `validation::falls::count_border_falls` meets its contract. The invariant: the borders that were counted and those that are
-- left are all.
use mathlib.Core.Path.{◌≡◌}
use Prim.Native.Nat.{◌+◌}
use lib.ListN.{drop}
use Rattle.validation.specs.falls.Falls.{border_falls}
use Rattle.validation.proofs.falls.count_border_falls.Given as goal

abbrev pub invariant-loop-end : goal.invariant-loop-end
invariant-loop-end l = l.falls + border_falls l.n l.start (drop l.end-index l.ends) l.list ≡ border_falls l.n 0 l.ends l.list
