-- `signatures::sign_sets` meets its contract. The invariant: the signatures of the first k sets are written, and the next set
-- begins at `start`.
use Rattle.signatures.proofs.SigningSets.{SetsSigning}
use Rattle.signatures.proofs.sign_sets.Given as goal

abbrev pub invariant-loop-k : goal.invariant-loop-k
invariant-loop-k l = SetsSigning l.at l.sets.ends.now l.sets.items.now l.initial.work l.work l.start l.k
