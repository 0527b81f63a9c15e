-- `merge_rows::paths::mark_ranks` meets its contract. The invariant: the ranks of the first items are members.
use lib.ListN.{take}
use Rattle.merge_rows.specs.FirstRanks.{RanksMarked}
use Rattle.merge_rows.proofs.paths.mark_ranks.Given as goal

abbrev pub invariant-loop-x : goal.invariant-loop-x
invariant-loop-x l = RanksMarked l.ranks (take l.x-index l.set) l.initial.words l.words
