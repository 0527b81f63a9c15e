use mathlib.Core.Path.{sym, ◌∙◌}
use borrow.Author.Tests.{eqb-true, eqb-false}
use native.Mathlib.Omega.{arith}
use Rattle.record_reader.proofs.Walking.{walked_step, walked_found, walked_end}
use Rattle.record_reader.proofs.is_repeat.Goals as goal

pub returns-then-is_same : goal.returns-then-is_same
returns-then-is_same c =
    walked_found c.loop-j.invariant (omega (arith, c.loop-j-test.true))
    (sym c.tag_at-other.ensures.is ∙ eqb-true _ _ (sym c.is_same.ensures ∙ c.if-is_same.true)
    ∙ c.tag_at-tag.ensures.is)

pub loop-j-preserved : goal.loop-j-preserved
loop-j-preserved c =
    walked_step c.requires.linked c.loop-j.invariant (omega (arith, c.loop-j-test.true)) c.from-j-in-loop-j.ensures
    (λ same. eqb-false _ _ (sym c.is_same.ensures ∙ c.if-is_same.false)
    (c.tag_at-other.ensures.is ∙ same ∙ sym c.tag_at-tag.ensures.is))

pub returns : goal.returns
returns c = walked_end c.loop-j.invariant c.loop-j-test.false
