-- `kitlist::main` is safe: the text lies within its list.
use mathlib.Core.Path.{sym}
use lib.Seq.{length-take-le}
use Rattle.join_text.proofs.Texts.{fills_within}
use Rattle.kitlist.proofs.main.Goals as goal

pub slice_bounds-text-end : goal.slice_bounds-text-end
slice_bounds-text-end c =
    fills_within c.list_file-end.ensures

pub slice_bounds-write_all-end : goal.slice_bounds-write_all-end
slice_bounds-write_all-end c =
    sym (length-take-le _ _ (fills_within c.list_file-end.ensures))
