use mathlib.Core.Path.{◌≡◌}
use Prim.Native.Nat.{◌+◌, ◌-◌}
use native.Mathlib.Omega.{arith}
use lib.Dec.{leb}
use lib.ListN.{get_or}
use Rattle.lists.specs.Lists.{slice}
use Rattle.lists.proofs.Slices.{length-slice}
use Rattle.validation.specs.falls.Falls.{falls}
use Rattle.validation.proofs.falls.Falls.{falls_before, falls_end, falls_bound}
use Rattle.validation.proofs.falls.Passes.{number_one}
use Rattle.validation.proofs.falls.count_falls.Goals as goal
use Rattle.validation.proofs.falls.count_falls.Goals.{After-from-falls}

-- this number's part of what was left
step : (c : After-from-falls)
    → let a = c.args in
    let found = c.loop-e.falls + c.from-falls.result in
    let e = c.loop-e.e in
    (found + falls (slice (e + 1 - 1) a.n a.list.now) ≡ falls (slice 0 a.n a.list.now))
step c =
    let a = c.args in
    let e = c.loop-e.e in
    omega (
      arith,
      c.loop-e.invariant,
      c.from-falls.ensures,
      number_one (leb (get_or a.list.now e 0) (get_or a.list.now (e - 1) 0)),
      falls_before a.n a.list.now (omega arith) e (omega arith) (omega arith),
    )

pub overflow_add-falls : goal.overflow_add-falls
overflow_add-falls c =
    let a = c.args in
    let all = slice 0 a.n a.list.now in
    omega (arith, step (goal.at.overflow_add-falls c).After-from-falls, falls_bound all, length-slice 0 a.n a.list.now (omega arith))

pub loop-e-preserved : goal.loop-e-preserved
loop-e-preserved c = step (goal.at.loop-e-preserved c).After-from-falls

pub returns : goal.returns
returns c =
    let a = c.args in
    omega (arith, c.loop-e.invariant, falls_end a.n a.list.now (omega arith) (c.loop-e.e - 1) (omega arith))
