-- `record_reader::is_repeat` meets its contract. The invariant: no tag from the link j up to the tag k is the same as it, and j links to
-- one of its bucket (`Walked`). The measure is j.
use Rattle.record_reader.proofs.Walking.{Walked}
use Rattle.record_reader.proofs.is_repeat.Given as goal

abbrev pub invariant-loop-j : goal.invariant-loop-j
invariant-loop-j l = Walked l.file l.start l.k l.j

abbrev pub decreases-loop-j : goal.decreases-loop-j
decreases-loop-j l = l.j
