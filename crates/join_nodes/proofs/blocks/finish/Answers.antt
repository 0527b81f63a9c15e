use mathlib.Core.Path.{refl}
use native.Mathlib.Omega.{arith}
use Rattle.join_nodes.proofs.Asked.{some_path}
use Rattle.join_nodes.proofs.PartLoop.{continuing_step, continuing_spent, continuing_end}
use Rattle.join_nodes.proofs.blocks.LimitLaws.{limit_first, limit_done}
use Rattle.join_nodes.proofs.blocks.finish.Goals as goal

pub finish_one-requires : goal.finish_one-requires
finish_one-requires c =
    some_path c.loop-i.invariant.some (λ q path at. limit_first at c.loop-i-test.true)

pub returns-in_err-r : goal.returns-in_err-r
returns-in_err-r c =
    let more = c.loop-i-test.true in
    λ q path first.
    rw c.from_residual.ensures
    (continuing_spent c.loop-i.invariant (omega arith) (omega (arith, more))
    (λ q path at. limit_done at more (c.in_err-r.ensures q path (limit_first at more))) refl q path first)

pub loop-i-preserved : goal.loop-i-preserved
loop-i-preserved c =
    let more = c.loop-i-test.true in
    continuing_step c.loop-i.invariant (omega arith) (omega (arith, more))
    (λ q path at. limit_done at more (c.in_ok-r.ensures q path (limit_first at more))) c.finish_one.auto.work refl

pub returns : goal.returns
returns c =
    let inv = c.loop-i.invariant in
    continuing_end inv c.loop-i-test.false inv.some.holds.going.underway.budget (λ q path at. at.going.rows)
