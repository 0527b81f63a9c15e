-- `words::flags::keep_flagged` meets its contract. The invariant is `Keeping`: what was written, with the flagged words of the
-- rest, are the flagged words.
use Rattle.words.specs.flags.Flags.{is_flagged}
use Rattle.words.proofs.flags.Keeping.{Keeping}
use Rattle.words.proofs.flags.keep_flagged.Given as goal

abbrev pub invariant-loop-j : goal.invariant-loop-j
invariant-loop-j l = Keeping (is_flagged l.flags) l.initial.work l.c l.e l.out l.work l.j l.n
