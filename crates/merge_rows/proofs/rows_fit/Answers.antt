-- `merge_rows::rows_fit` meets its contract: the hints are the last region.
use Prim.Native.Nat.{◌+◌, ◌/◌}
use mathlib.Core.Path.{ap}
use native.Mathlib.Omega.{arith}
use lib.Dec.{leb}
use Rattle.merge_rows.specs.declared.Regions.{Regions}
use Rattle.merge_rows.proofs.FillSteps.{row_small}
use Rattle.merge_rows.proofs.rows_fit.Goals as goal

pub overflow_add-result : goal.overflow_add-result
overflow_add-result c =
    let a = c.args in
    omega (arith, ap (λ (r : Regions). r.hints) c.lay_rows-r.ensures, row_small a.t ((a.rights + 63) / 64 + 1) c.requires.items (omega arith))

pub returns : goal.returns
returns c =
    let a = c.args in
    ap (λ (r : Regions). leb (r.hints + a.lefts) a.words) c.lay_rows-r.ensures
