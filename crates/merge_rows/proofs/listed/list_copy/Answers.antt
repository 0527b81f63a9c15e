-- `merge_rows::listed::list_copy` meets its contract: the pairs are put where they fit, and else only the place moves.
use Prim.Native.Nat.{ℕ, ◌+◌, ◌*◌, ◌<◌}
use mathlib.Core.List.{List}
use native.Mathlib.Omega.{arith}
use lib.ListN.{length, get_or}
use Rattle.lists.proofs.Ranges.{length_table}
use Rattle.merge_rows.specs.ShortLists.{pairs_with, Listed, right_places}
use Rattle.merge_rows.proofs.ShortWriting.{listed_put, listed_past, length_pairs}
use Rattle.merge_rows.proofs.listed.list_copy.Goals as goal

copy_past : (pairs : List ℕ) (from n k at : ℕ) → length pairs < at + 2 * n
    → Listed pairs at (pairs_with k (right_places pairs from n)) (at + 2 * n) pairs
copy_past pairs from n k at past =
    let long = length_pairs k (right_places pairs from n) in
    let table = length_table (λ i. get_or pairs (from + 2 * i + 1) 0) n in
    listed_past pairs at (pairs_with k (right_places pairs from n)) (at + 2 * n) (omega arith) past

pub returns-then-pairs-end : goal.returns-then-pairs-end
returns-then-pairs-end c = let a = c.args in copy_past a.pairs.now a.from a.n a.k a.at c.if-pairs-end.true

pub returns : goal.returns
returns c = listed_put c.put_copy.ensures
