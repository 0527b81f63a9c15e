use mathlib.Core.Path.{sym, ◌∙◌}
use native.Mathlib.Omega.{arith}
use Rattle.validation.proofs.one_set.Rises.{rises_all, rises_low, rises_high, rises_next, rises_end}
use Rattle.validation.proofs.one_set.rises_below.Goals as goal

pub returns-then-x-least : goal.returns-then-x-least
returns-then-x-least c =
    let a = c.args in
    let l = c.loop-x in
    sym (rises_low a.t l.x-index a.items.now c.loop-x-test.true l.least c.if-x-least.true)
    ∙ l.invariant ∙ rises_all a.t a.items.now

pub returns-then-t-x : goal.returns-then-t-x
returns-then-t-x c =
    let a = c.args in
    let l = c.loop-x in
    sym (rises_high a.t l.x-index a.items.now c.loop-x-test.true l.least c.if-t-x.true)
    ∙ l.invariant ∙ rises_all a.t a.items.now

pub loop-x-preserved : goal.loop-x-preserved
loop-x-preserved c =
    let a = c.args in
    let l = c.loop-x in
    sym (rises_next a.t l.x-index a.items.now c.loop-x-test.true l.least (omega arith) (omega arith)) ∙ l.invariant

pub returns : goal.returns
returns c =
    let a = c.args in
    let l = c.loop-x in
    sym (rises_end a.t l.x-index l.least a.items.now c.loop-x-test.false) ∙ l.invariant ∙ rises_all a.t a.items.now
