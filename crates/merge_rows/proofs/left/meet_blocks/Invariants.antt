-- `merge_rows::left::meet_blocks` meets its contract. The invariant: what the candidates of the blocks behind came to; with those of the
-- blocks left they are all (`BlocksMet`). The measure is the word of the blocks left.
use Rattle.sets.specs.Collections.{lent_sets, sets_in}
use Rattle.merge_rows.proofs.BlockSteps.{BlocksMet}
use Rattle.merge_rows.proofs.left.meet_blocks.Given as goal

abbrev pub invariant-loop-rest : goal.invariant-loop-rest
invariant-loop-rest l = BlocksMet l.r (sets_in (lent_sets l.sets)) l.k l.path l.more l.initial.met l.initial.work l.initial.pairs l.work l.pairs l.met l.rest

abbrev pub decreases-loop-rest : goal.decreases-loop-rest
decreases-loop-rest l = l.rest
