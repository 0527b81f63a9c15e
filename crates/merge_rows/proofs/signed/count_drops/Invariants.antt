-- `merge_rows::signed::count_drops` meets its contract. The invariant: those dropped so far, and those of the right sets left, are all
-- that are dropped. The measure is the word of the right sets left.
use Rattle.sets.specs.Collections.{lent_sets, sets_in}
use Rattle.merge_rows.proofs.SignedLaws.{Dropping}
use Rattle.merge_rows.proofs.signed.count_drops.Given as goal

abbrev pub invariant-loop-rest : goal.invariant-loop-rest
invariant-loop-rest l = Dropping l.at l.mark l.base l.word (sets_in (lent_sets l.sets)) l.initial.work l.work l.rest l.dropped

abbrev pub decreases-loop-rest : goal.decreases-loop-rest
decreases-loop-rest l = l.rest
