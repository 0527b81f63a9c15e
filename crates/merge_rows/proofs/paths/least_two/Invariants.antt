-- `merge_rows::paths::least_two` meets its contract. The invariant: the two numbers are the least of the first e items' keys.
use Prim.Native.Nat.{ℕ}
use mathlib.Core.List.{List}
use lib.ListN.{take}
use Rattle.merge_rows.specs.FirstRanks.{FewerBelow}
use Rattle.merge_rows.proofs.paths.least_two.Given as goal

pub record LeastSoFar (ranks set : List ℕ) (first second e : ℕ) : Type 0 where
  pub one_below : FewerBelow ranks (take e set) 1 first
  pub two-below : FewerBelow ranks (take e set) 2 second

abbrev pub invariant-loop-x : goal.invariant-loop-x
invariant-loop-x l = LeastSoFar l.ranks l.set l.first l.second l.x-index
