-- `words::subsets::search_down` meets its contract. The invariant is `Trimming`.
use Rattle.words.proofs.Trimming.{Trimming}
use Rattle.words.proofs.subsets.search_down.Given as goal

abbrev pub invariant-loop-i : goal.invariant-loop-i
invariant-loop-i l = Trimming l.work l.a l.b l.c l.e l.i l.j
