use mathlib.Core.Path.{refl}
use native.Mathlib.Omega.{arith}
use Rattle.words.proofs.Advancing.{passed, passing_next}
use Rattle.words.proofs.subsets.skip_lower.Goals as goal

pub loop-j-init : goal.loop-j-init
loop-j-init c = record { word = refl; rise = c.requires.rising_2.rise; same = refl }

pub returns-then-x-work : goal.returns-then-x-work
returns-then-x-work c = passed c.loop-j.invariant (λ h. c.if-x-work.true)

pub loop-j-preserved : goal.loop-j-preserved
loop-j-preserved c =
    passing_next c.loop-j.invariant c.requires.a_lt_b c.requires.rising c.requires.rising_2 c.loop-j-test.true
    (omega (arith, c.if-x-work.false))

pub returns : goal.returns
returns c = passed c.loop-j.invariant (λ h. absurd (omega (arith, h, c.loop-j-test.false)))
