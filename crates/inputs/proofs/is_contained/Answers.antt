use native.Mathlib.Omega.{arith}
use Rattle.inputs.proofs.Containing.{containing_none, containing_start, containing-stop, containing_end}
use Rattle.inputs.proofs.Containing.{containing_low, containing_same, containing_high}
use Rattle.inputs.proofs.is_contained.Goals as goal
use Rattle.inputs.proofs.is_contained.Goals.{then-x-y-2+else-left-i, else-x-y-2}

pub returns-then-left-eq0 : goal.returns-then-left-eq0
returns-then-left-eq0 c = containing_none _ _ c.if-left-eq0.true

pub loop-y-init : goal.loop-y-init
loop-y-init c = (containing_start _ _ (omega arith) c.requires.0 c.requires.1, omega arith)

pub returns-then-x-y : goal.returns-then-x-y
returns-then-x-y c = containing_low c.loop-y.invariant.0 c.loop-y.invariant.1 c.loop-y-test.true c.if-x-y.true

pub returns-then-left-i : goal.returns-then-left-i
returns-then-left-i c =
    let m = c.loop-y.invariant in
    containing_end (containing_same m.0 m.1 c.loop-y-test.true c.if-x-y-2.true) c.if-left-i.true

pub loop-y-preserved : goal.loop-y-preserved
loop-y-preserved c =
    let m = c.loop-y.invariant in
    elim c.if-x-y-2.branch [
      | then-x-y-2+else-left-i w ↦ rw w.i-is (containing_same m.0 m.1 c.loop-y-test.true w.if-x-y-2.true, omega (arith, w.if-left-i.false))
      | else-x-y-2 w ↦ rw w.i-is (containing_high m.0 m.1 c.loop-y-test.true (omega (arith, w.if-x-y-2.false, c.if-x-y.false)), m.1)
    ]

pub returns : goal.returns
returns c = containing-stop c.loop-y.invariant.0 c.loop-y.invariant.1 c.loop-y-test.false
