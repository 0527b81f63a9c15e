-- `run` is safe: the part of the output list that is lent has `room` bytes.
use mathlib.Core.Path.{sym}
use native.Mathlib.Omega.{arith}
use lib.Seq.{length-take-le}
use Rattle.tag_writer_main.proofs.run.Goals as goal

pub slice_bounds-run_into-end : goal.slice_bounds-run_into-end
slice_bounds-run_into-end c = sym (length-take-le _ _ (omega arith))
