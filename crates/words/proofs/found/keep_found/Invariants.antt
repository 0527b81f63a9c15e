-- `words::found::keep_found` meets its contract. The invariant is `Keeping`: what was written, with what is among the first part
-- of the rest, is what is among it of the second. The first part lies below what is written, and stays.
use Rattle.lists.specs.Lists.{memb, slice}
use Rattle.words.proofs.flags.Keeping.{Keeping}
use Rattle.words.proofs.found.keep_found.Given as goal

abbrev pub invariant-loop-j : goal.invariant-loop-j
invariant-loop-j l = Keeping (λ s. memb s (slice l.a l.b l.initial.work)) l.initial.work l.c l.e l.out l.work l.j l.n
