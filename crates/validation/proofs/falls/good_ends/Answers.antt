use mathlib.Core.Path.{sym, ◌∙◌}
use native.Mathlib.Omega.{arith}
use Rattle.validation.proofs.falls.Ends.{ends_low, ends_long, ends_next, ends_end}
use Rattle.validation.proofs.falls.good_ends.Goals as goal

pub returns-then-end-before : goal.returns-then-end-before
returns-then-end-before c =
    let a = c.args in
    sym (ends_low a.longest a.ends.now c.loop-end.end-index c.loop-end.before (omega arith) c.if-end-before.true)
    ∙ c.loop-end.invariant

pub returns-then-longest-end : goal.returns-then-longest-end
returns-then-longest-end c =
    let a = c.args in
    sym
    (ends_long a.longest a.ends.now c.loop-end.end-index c.loop-end.before (omega arith) (omega arith) c.if-longest-end.true)
    ∙ c.loop-end.invariant

pub loop-end-preserved : goal.loop-end-preserved
loop-end-preserved c =
    let a = c.args in
    sym
    (ends_next a.longest a.ends.now c.loop-end.end-index c.loop-end.before (omega arith) (omega arith) (omega arith))
    ∙ c.loop-end.invariant

pub returns : goal.returns
returns c =
    let a = c.args in
    sym (ends_end a.longest a.ends.now c.loop-end.end-index c.loop-end.before c.loop-end-test.false)
    ∙ c.loop-end.invariant
