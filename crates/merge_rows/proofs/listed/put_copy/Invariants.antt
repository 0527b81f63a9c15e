-- `merge_rows::listed::put_copy` meets its contract. The invariant: what is written and the pairs that are left are together what is
-- wanted, and nothing below the place changed.
use Prim.Native.Nat.{ℕ, ◌+◌, ◌*◌}
use mathlib.Core.Path.{◌≡◌}
use mathlib.Core.List.{List}
use lib.ListN.{take, drop}
use Rattle.lists.proofs.Writing.{Writing}
use Rattle.merge_rows.specs.ShortLists.{pairs_with, right_places}
use Rattle.merge_rows.proofs.listed.put_copy.Given as goal

pub record CopyLeft (was : List ℕ) (from n k at : ℕ) (is : List ℕ) (i : ℕ) : Type 0 where
  pub writing : Writing was at (pairs_with k (right_places was from n)) is (at + 2 * i) (pairs_with k (drop i (right_places was from n)))
  pub low : take at is ≡ take at was

abbrev pub invariant-loop-i : goal.invariant-loop-i
invariant-loop-i l = CopyLeft l.initial.pairs l.from l.n l.k l.at l.pairs l.i
