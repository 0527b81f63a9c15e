-- `join_pairs::row_pairs::write_kept` meets its contract. The invariant: the pairs with the right places that are left remain to be
-- written.
use lib.ListN.{drop}
use Rattle.lists.proofs.Writing.{Writing}
use Rattle.join_pairs.specs.row_pairs.Containing.{pairs_with}
use Rattle.join_pairs.proofs.row_pairs.write_kept.Given as goal

abbrev pub invariant-loop-s : goal.invariant-loop-s
invariant-loop-s l = Writing l.initial.pairs l.at (pairs_with l.k l.row) l.pairs l.n (pairs_with l.k (drop l.s-index l.row))
