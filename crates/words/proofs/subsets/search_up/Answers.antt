use mathlib.Core.Path.{refl}
use Rattle.words.proofs.Advancing.{advancing_stop, advancing_other, advancing_same, advancing_end}
use Rattle.words.proofs.subsets.search_up.Goals as goal

pub loop-i-init : goal.loop-i-init
loop-i-init c =
    record { first_rises = c.requires.rising.rise; second_rises = c.requires.rising_2.rise; same = refl }

pub skip_lower-j-requires : goal.skip_lower-j-requires
skip_lower-j-requires c =
    let m = c.loop-i.invariant in
    record {
      a_lt_b = c.loop-i-test.true;
      rising = record { within = c.requires.rising.within; rise = m.first_rises };
      rising_2 = record { within = c.requires.rising_2.within; rise = m.second_rises };
    }

pub returns-then-e-j : goal.returns-then-e-j
returns-then-e-j c =
    advancing_stop c.loop-i.invariant c.skip_lower-j.ensures c.requires.rising c.requires.rising_2 c.loop-i-test.true
    c.if-e-j.true

pub returns-then-work-i : goal.returns-then-work-i
returns-then-work-i c =
    advancing_other c.loop-i.invariant c.skip_lower-j.ensures c.requires.rising c.requires.rising_2 c.loop-i-test.true
    c.if-e-j.false c.if-work-i.true

pub loop-i-preserved : goal.loop-i-preserved
loop-i-preserved c =
    advancing_same c.loop-i.invariant c.skip_lower-j.ensures c.requires.rising c.requires.rising_2 c.loop-i-test.true
    c.if-e-j.false c.if-work-i.false

pub returns : goal.returns
returns c = advancing_end c.loop-i.invariant c.loop-i-test.false
