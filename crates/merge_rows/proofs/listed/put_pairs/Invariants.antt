-- `merge_rows::listed::put_pairs` meets its contract. The invariant: what is written and the pairs of the digits that are left are
-- together what is wanted. The measure is how many digits are left.
use Prim.Native.Nat.{ℕ, ◌^◌, ◌<◌}
use mathlib.Core.List.{List}
use lib.ListN.{length}
use Rattle.lists.proofs.Writing.{Writing}
use Rattle.bit_sets.specs.BitSets.{digits_from}
use Rattle.merge_rows.specs.ShortLists.{pairs_with}
use Rattle.merge_rows.proofs.listed.put_pairs.Given as goal

pub record PairsLeft (was : List ℕ) (at word k base : ℕ) (is : List ℕ) (rest end : ℕ) : Type 0 where
  pub writing : Writing was at (pairs_with k (digits_from 64 base word)) is end (pairs_with k (digits_from 64 base rest))
  pub small : rest < 2 ^ 64

abbrev pub invariant-loop-rest : goal.invariant-loop-rest
invariant-loop-rest l = PairsLeft l.initial.pairs l.at l.word l.k l.base l.pairs l.rest l.end

abbrev pub decreases-loop-rest : goal.decreases-loop-rest
decreases-loop-rest l = length (digits_from 64 l.base l.rest)
