use native.Mathlib.Omega.{arith}
use Rattle.words.proofs.flags.Flagging.{item_below, setting_start, setting_step, setting_end}
use Rattle.words.proofs.flags.set_flags.Goals as goal

pub loop-s-init : goal.loop-s-init
loop-s-init c = setting_start c.args.flag c.args.flags.now

pub bounds-flags-s : goal.bounds-flags-s
bounds-flags-s c = omega (arith, item_below c.args.part.now c.requires c.loop-s.s-index c.loop-s-test.true, c.loop-s.invariant.size)

pub loop-s-preserved : goal.loop-s-preserved
loop-s-preserved c =
    setting_step _ c.loop-s.s-index c.loop-s.invariant c.loop-s-test.true
    (omega (arith, item_below c.args.part.now c.requires c.loop-s.s-index c.loop-s-test.true, c.loop-s.invariant.size))

pub returns : goal.returns
returns c = setting_end c.args.part.now c.loop-s.invariant c.loop-s-test.false
