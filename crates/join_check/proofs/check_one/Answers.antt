-- `join_check::check_one` meets its contract: each end of a check raises its counter.
use mathlib.Core.Path.{sym, ap, ◌∙◌}
use native.Mathlib.Omega.{arith}
use Rattle.lists.specs.Lists.{sum}
use Rattle.join_check.specs.Probes.{outcome_of, probe_outcome}
use Rattle.join_check.proofs.Probing.{raise_dropped, raise_confirmed, raise_false}
use borrow.Author.Rules.{rules}
use Rattle.join_check.proofs.check_one.Goals as goal

pub overflow_add-result : goal.overflow_add-result
unfolding sum
overflow_add-result c = search rules

pub overflow_add-result-in-FalseDrop : goal.overflow_add-result-in-FalseDrop
unfolding sum
overflow_add-result-in-FalseDrop c = search rules

pub overflow_add-result-in-Confirmed : goal.overflow_add-result-in-Confirmed
unfolding sum
overflow_add-result-in-Confirmed c = search rules

pub returns-in-Dropped : goal.returns-in-Dropped
unfolding sum
returns-in-Dropped c =
    let a = c.args in
    record {
      grown = omega arith;
      tallied = λ q there.
          raise_dropped a.tally (probe_outcome q a.work.now a.p a.s)
          (sym (c.check_probe-end.ensures q there) ∙ ap outcome_of c.in-Dropped.is);
    }

pub returns-in-FalseDrop : goal.returns-in-FalseDrop
unfolding sum
returns-in-FalseDrop c =
    let a = c.args in
    record {
      grown = omega arith;
      tallied = λ q there.
          raise_false a.tally (probe_outcome q a.work.now a.p a.s)
          (sym (c.check_probe-end.ensures q there) ∙ ap outcome_of c.in-FalseDrop.is);
    }

pub returns-in-Confirmed : goal.returns-in-Confirmed
unfolding sum
returns-in-Confirmed c =
    let a = c.args in
    record {
      grown = omega arith;
      tallied = λ q there.
          raise_confirmed a.tally (probe_outcome q a.work.now a.p a.s)
          (sym (c.check_probe-end.ensures q there) ∙ ap outcome_of c.in-Confirmed.is);
    }
