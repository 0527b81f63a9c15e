-- `merge_rows::meet_lefts` meets its contract. The invariant: the counters, the kept counters and the pair list are those of the first k left sets, and
-- the checks are within the budget (`LeftsMet`).
use Rattle.inputs.specs.Input.{lent_input}
use Rattle.merge_rows.proofs.AllLefts.{LeftsMet}
use Rattle.merge_rows.proofs.meet_lefts.Given as goal

abbrev pub invariant-loop-k : goal.invariant-loop-k
invariant-loop-k l = LeftsMet l.r (lent_input l.input) l.settings.limit l.settings.ranks.now l.settings.budget l.initial.work l.initial.path l.initial.pairs l.work l.path l.pairs l.met l.start l.k
