use mathlib.Core.Path.{refl}
use native.Mathlib.Omega.{arith}
use Rattle.words.proofs.Trimming.{trimming_rises, trimming_stop, trimming_other, trimming_same, trimming_end}
use Rattle.words.proofs.subsets.search_down.Goals as goal

pub loop-i-init : goal.loop-i-init
loop-i-init c =
    record { first = omega arith; second = omega arith; first_rises = c.requires.rising.rise; second_rises = c.requires.rising_2.rise; same = refl }

pub skip_higher-j-requires : goal.skip_higher-j-requires
skip_higher-j-requires c =
    let m = c.loop-i.invariant in
    record {
      a_lt_b = omega (arith, c.loop-i-test.true);
      rising = trimming_rises m c.requires.rising c.loop-i-test.true;
      rising_2 = record { within = omega (arith, m.second, c.requires.rising_2.within); rise = m.second_rises };
    }

pub returns-then-j-c : goal.returns-then-j-c
returns-then-j-c c =
    trimming_stop c.loop-i.invariant c.skip_higher-j.ensures c.requires.rising c.requires.rising_2 c.loop-i-test.true
    c.if-j-c.true

pub returns-then-work-i : goal.returns-then-work-i
returns-then-work-i c =
    trimming_other c.loop-i.invariant c.skip_higher-j.ensures c.requires.rising c.requires.rising_2 c.loop-i-test.true
    (omega (arith, c.if-j-c.false)) c.if-work-i.true

pub loop-i-preserved : goal.loop-i-preserved
loop-i-preserved c =
    trimming_same c.loop-i.invariant c.skip_higher-j.ensures c.requires.rising c.requires.rising_2 c.loop-i-test.true
    (omega (arith, c.if-j-c.false)) c.if-work-i.false

pub returns : goal.returns
returns c = trimming_end c.loop-i.invariant c.loop-i-test.false
