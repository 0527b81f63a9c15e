-- `join_pairs::row_pairs::write_row` meets its contract. The invariant: the pairs with the places from i on remain to be written.
use Prim.Native.Nat.{ℕ, ◌≤◌}
use mathlib.Core.List.{List}
use Rattle.lists.specs.Lists.{slice}
use Rattle.lists.proofs.Writing.{Writing}
use Rattle.join_spec.specs.Query.{Query}
use Rattle.join_index.specs.declared.Layout.{Layout}
use Rattle.join_check.specs.declared.Probe.{Probe}
use Rattle.join_pairs.specs.row_pairs.Containing.{row_among}
use Rattle.join_pairs.specs.row_pairs.Writing.{RowRoom}
use Rattle.join_pairs.proofs.row_pairs.write_row.Given as goal

pub record RowWriting (lay : Layout) (w : List ℕ) (p : Probe) (k from to at : ℕ) (was : List ℕ) (n : ℕ) (pairs : List ℕ) (i : ℕ)
    : Type 0 where
  pub low : from ≤ i
  pub written :
      (q : Query) → RowRoom lay q w p k from to at was
      → Writing was at (row_among q k (slice from to w)) pairs n (row_among q k (slice i to w))

abbrev pub invariant-loop-i : goal.invariant-loop-i
invariant-loop-i l = RowWriting l.lay l.work l.p l.k l.from l.to l.at l.initial.pairs l.n l.pairs l.i
