use mathlib.Core.Path.{◌≡◌}
use Prim.Native.Nat.{◌+◌}
use native.Mathlib.Omega.{arith}
use lib.ListN.{drop, get_or}
use Rattle.validation.specs.falls.Falls.{border_falls}
use Rattle.validation.proofs.falls.Passes.{borders_next, borders_end, borders_bound}
use Rattle.validation.proofs.falls.count_border_falls.Goals as goal
use Rattle.validation.proofs.falls.count_border_falls.Goals.{After-border_fall-falls}

-- this border's part of what was left
step : (c : After-border_fall-falls)
    → let a = c.args in
    let found = c.loop-end.falls + c.border_fall-falls.result in
    let k = c.loop-end.end-index in
    (found + border_falls a.n (get_or a.ends.now k 0) (drop (k + 1) a.ends.now) a.list.now
    ≡ border_falls a.n 0 a.ends.now a.list.now)
step c =
    let a = c.args in
    omega (
      arith,
      c.loop-end.invariant,
      c.border_fall-falls.ensures,
      borders_next a.n a.ends.now a.list.now c.loop-end.end-index c.loop-end.start (omega arith),
    )

pub overflow_add-falls : goal.overflow_add-falls
overflow_add-falls c =
    let a = c.args in
    omega (arith, step (goal.at.overflow_add-falls c).After-border_fall-falls, borders_bound a.n 0 a.ends.now a.list.now)

pub loop-end-preserved : goal.loop-end-preserved
loop-end-preserved c = step (goal.at.loop-end-preserved c).After-border_fall-falls

pub returns : goal.returns
returns c =
    let a = c.args in
    omega (
      arith,
      c.loop-end.invariant,
      borders_end a.n a.ends.now a.list.now c.loop-end.end-index c.loop-end.start (omega arith),
    )
