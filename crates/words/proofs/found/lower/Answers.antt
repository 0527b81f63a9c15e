use Prim.Native.Nat.{◌≤◌}
use native.Mathlib.Omega.{arith}
use lib.ListN.{length}
use Rattle.words.proofs.found.Halving.{halving_start, halving_up, halving_down, halving_end}
use Rattle.words.proofs.found.lower.Goals as goal
use Rattle.words.proofs.found.lower.Goals.{In-loop-lo}

-- the places that are left lie within the list
inside : (c : In-loop-lo) → c.loop-lo.hi ≤ length c.args.part.now
inside c = c.loop-lo.invariant.high

pub loop-lo-init : goal.loop-lo-init
loop-lo-init c =
    halving_start c.args.x c.args.part.now

pub overflow_add-mid : goal.overflow_add-mid
overflow_add-mid c = omega (arith, inside (goal.at.overflow_add-mid c).In-loop-lo, c.well_formed)

pub word_at-requires : goal.word_at-requires
word_at-requires c = omega (arith, inside (goal.at.word_at-requires c).In-loop-lo, c.loop-lo-test.true)

pub overflow_add-lo : goal.overflow_add-lo
overflow_add-lo c = omega (arith, inside (goal.at.overflow_add-lo c).In-loop-lo, c.well_formed)

pub loop-lo-smaller-then-word_at-x : goal.loop-lo-smaller-then-word_at-x
loop-lo-smaller-then-word_at-x c = omega (arith, c.loop-lo-test.true)

pub loop-lo-preserved-then-word_at-x : goal.loop-lo-preserved-then-word_at-x
loop-lo-preserved-then-word_at-x c =
    halving_up c.requires c.loop-lo.invariant (omega arith) (omega (arith, c.loop-lo-test.true))
    (omega (arith, c.word_at.ensures.is, c.if-word_at-x.true))

pub loop-lo-smaller : goal.loop-lo-smaller
loop-lo-smaller c = omega (arith, c.loop-lo-test.true)

pub loop-lo-preserved : goal.loop-lo-preserved
loop-lo-preserved c =
    halving_down c.requires c.loop-lo.invariant (omega arith) (omega (arith, c.loop-lo-test.true))
    (omega (arith, c.word_at.ensures.is, c.if-word_at-x.false))

pub returns : goal.returns
returns c = halving_end c.loop-lo.invariant c.loop-lo-test.false
