-- `record_reader::count_repeats` meets its contract. The invariant: the first k tags are chained, and their repeats are counted
-- (`Counted`).
use Rattle.record_reader.proofs.Counting.{Counted}
use Rattle.record_reader.proofs.count_repeats.Given as goal

abbrev pub invariant-loop-k : goal.invariant-loop-k
invariant-loop-k l = Counted l.file l.start l.k l.last l.links l.repeats
