use mathlib.Core.Path.{refl}
use native.Mathlib.Omega.{arith}
use Rattle.words.proofs.Trimming.{skipped, skipping_next}
use Rattle.words.proofs.subsets.skip_higher.Goals as goal

pub loop-j-init : goal.loop-j-init
loop-j-init c =
    record { high = omega arith; word = refl; rise = c.requires.rising_2.rise; same = refl }

pub returns-then-work-j : goal.returns-then-work-j
returns-then-work-j c = skipped c.loop-j.invariant (λ h. omega (arith, c.if-work-j.true))

pub loop-j-preserved : goal.loop-j-preserved
loop-j-preserved c =
    skipping_next c.loop-j.invariant c.requires.a_lt_b c.requires.rising c.requires.rising_2 c.loop-j-test.true
    (omega (arith, c.if-work-j.false))

pub returns : goal.returns
returns c = skipped c.loop-j.invariant (λ h. omega (arith, h, c.loop-j-test.false))
