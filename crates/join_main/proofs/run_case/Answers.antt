-- `run_case` is safe: the parts that are lent are within their arrays.
use mathlib.Core.Path.{sym}
use native.Mathlib.Omega.{arith}
use lib.Seq.{length-take-le}
use Rattle.join_main.proofs.run_case.Goals as goal

pub slice_bounds-run_into-end : goal.slice_bounds-run_into-end
slice_bounds-run_into-end c = sym (length-take-le _ _ (omega arith))

pub slice_bounds-run_into-end-2 : goal.slice_bounds-run_into-end-2
slice_bounds-run_into-end-2 c = sym (length-take-le _ _ (omega arith))
