use Prim.Native.Nat.{◌≤◌, ◌<◌}
use native.Mathlib.Omega.{arith}
use lib.ListN.{length, get_or}
use Rattle.words.proofs.flags.Flagging.{flag_small}
use Rattle.words.proofs.flags.Keeping.{keeping_start, keeping_step, keeping_end, keeping_small}
use Rattle.words.proofs.flags.keep_flagged.Goals as goal
use Rattle.words.proofs.flags.keep_flagged.Goals.{After-slice_known-1}

pub loop-j-init : goal.loop-j-init
loop-j-init c = keeping_start

-- the word has a flag
word_low : (c : After-slice_known-1)
    → get_or c.loop-j.work c.loop-j.j 0 < length c.args.flags.now
word_low c =
    keeping_small c.loop-j.invariant c.requires.behind c.loop-j-test.true c.requires.below

-- which is 1 at the most
flag_low : (c : After-slice_known-1)
    → get_or c.args.flags.now
    (get_or c.loop-j.work c.loop-j.j 0) 0 ≤ 1
flag_low c = flag_small c.requires.flagged _ (word_low c)

pub overflow_cast-n : goal.overflow_cast-n
overflow_cast-n c = omega (arith, word_low (goal.at.overflow_cast-n c).After-slice_known-1)

pub bounds-flags-x : goal.bounds-flags-x
bounds-flags-x c = word_low (goal.at.bounds-flags-x c).After-slice_known-1

pub overflow_cast-n-in-loop-j : goal.overflow_cast-n-in-loop-j
overflow_cast-n-in-loop-j c = omega (arith, flag_low (goal.at.overflow_cast-n-in-loop-j c).After-slice_known-1)

pub overflow_add-n : goal.overflow_add-n
overflow_add-n c =
    omega (arith, flag_low (goal.at.overflow_add-n c).After-slice_known-1, c.loop-j.invariant.high, c.requires.behind.room)

pub loop-j-preserved : goal.loop-j-preserved
loop-j-preserved c =
    keeping_step c.loop-j.invariant c.requires.behind c.loop-j-test.true
    (c.requires.flagged.is (get_or c.loop-j.work c.loop-j.j 0) (word_low (goal.at.loop-j-preserved c).After-slice_known-1))

pub returns : goal.returns
returns c = keeping_end c.loop-j.invariant c.loop-j-test.false
