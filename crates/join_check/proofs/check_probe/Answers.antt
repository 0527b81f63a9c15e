-- `join_check::check_probe` meets its contract: the signatures tell a drop, else the ranks decide.
use mathlib.Core.Path.{◌≡◌, sym, ap, ◌∙◌}
use mathlib.Core.Bool.{Bool, cond}
use native.Mathlib.Omega.{arith}
use Rattle.join_spec.specs.Query.{Query}
use Rattle.join_spec.specs.Walk.{confirmed, false_drop}
use Rattle.join_index.specs.Asking.{RightThere}
use Rattle.join_check.specs.Probes.{probe_outcome}
use Rattle.join_index.proofs.Reading.{right_stored}
use Rattle.join_check.proofs.Probing.{right_part_rising, outcome-dropped, outcome_checked}
use Rattle.join_check.proofs.check_probe.Goals as goal
use Rattle.join_check.proofs.check_probe.Goals.{After-subset_words}

pub returns-then-common-left : goal.returns-then-common-left
returns-then-common-left c =
    let p = c.args.p in
    λ q there. sym (outcome-dropped p c.double_at-right.ensures there c.if-common-left.true)

pub overflow_add-from : goal.overflow_add-from
overflow_add-from c =
    let s = right_stored c.requires.some_query.holds in omega arith

pub overflow_add-to : goal.overflow_add-to
overflow_add-to c =
    let s = right_stored c.requires.some_query.holds in omega arith

pub subset_words-requires : goal.subset_words-requires
subset_words-requires c =
    record {
      rising = c.requires.rising;
      rising_2 = right_part_rising c.word_at.ensures c.word_at-2.ensures c.requires.some_query.holds;
    }

-- after the signatures, the ranks decide
decided : (c : After-subset_words) (q : Query)
    → let a = c.args in
    RightThere a.lay q a.work.now a.s
    → cond c.subset_words.result confirmed false_drop ≡ probe_outcome q a.work.now a.p a.s
decided c q there =
    outcome_checked c.args.p c.double_at-right.ensures there c.word_at.ensures
    c.word_at-2.ensures c.if-common-left.false c.subset_words.ensures

pub returns-then-subset_words : goal.returns-then-subset_words
returns-then-subset_words c =
    λ q there. sym (ap (λ (b : Bool). cond b confirmed false_drop) c.if-subset_words.true) ∙ decided (goal.at.returns-then-subset_words c).After-subset_words q there

pub returns : goal.returns
returns c =
    λ q there. sym (ap (λ (b : Bool). cond b confirmed false_drop) c.if-subset_words.false) ∙ decided (goal.at.returns c).After-subset_words q there
