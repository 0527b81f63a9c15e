-- `item_order::frequencies::tally` meets its contract, by the laws of proofs/Tallying.antt.
use lib.ListN.{length}
use Rattle.item_order.proofs.frequencies.Tallying.{CountingOccurrences}
use Rattle.item_order.proofs.frequencies.tally.Given as goal

abbrev pub invariant-loop-x : goal.invariant-loop-x
invariant-loop-x l = CountingOccurrences l.xs l.initial.counts l.counts l.x-index (length l.xs)
