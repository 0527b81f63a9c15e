use mathlib.Core.Path.{◌≡◌}
use Prim.Native.Nat.{◌+◌}
use native.Mathlib.Omega.{arith}
use lib.Dec.{leb}
use lib.ListN.{get_or, take, drop}
use lib.Seq.{length-take-le}
use Rattle.lists.specs.Lists.{count, slice}
use Rattle.lists.proofs.Counting.{count_bound}
use Rattle.validation.proofs.falls.Passes.{number_one, high_next, high_end}
use Rattle.validation.proofs.falls.count_high.Goals as goal
use Rattle.validation.proofs.falls.count_high.Goals.{After-from-high}

-- this number's part of what was left
step : (c : After-from-high)
    → let part = take c.args.n c.args.list.now in
    let high = c.loop-x.high + c.from-high.result in
    (high + count (leb c.args.t) (drop (c.loop-x.x-index + 1) part) ≡ count (leb c.args.t) part)
step c =
    let part = take c.args.n c.args.list.now in
    let k = c.loop-x.x-index in
    omega (
      arith,
      c.loop-x.invariant,
      c.from-high.ensures,
      number_one (leb c.args.t (get_or part k 0)),
      high_next c.args.t part k c.loop-x-test.true,
    )

pub overflow_add-high : goal.overflow_add-high
overflow_add-high c =
    let a = c.args in
    omega (
      arith,
      step (goal.at.overflow_add-high c).After-from-high,
      count_bound (leb a.t) (take a.n a.list.now),
      length-take-le a.n a.list.now (omega arith),
    )

pub loop-x-preserved : goal.loop-x-preserved
loop-x-preserved c = step (goal.at.loop-x-preserved c).After-from-high

pub returns : goal.returns
unfolding slice
returns c =
    let a = c.args in
    omega (arith, c.loop-x.invariant, high_end a.t (take a.n a.list.now) c.loop-x.x-index c.loop-x-test.false)
