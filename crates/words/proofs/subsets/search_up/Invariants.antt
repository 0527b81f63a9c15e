-- `words::subsets::search_up` meets its contract. The invariant is `Advancing`.
use Rattle.words.proofs.Advancing.{Advancing}
use Rattle.words.proofs.subsets.search_up.Given as goal

abbrev pub invariant-loop-i : goal.invariant-loop-i
invariant-loop-i l = Advancing l.work l.a l.b l.c l.e l.i l.j
