use mathlib.Core.Path.{ap}
use native.Mathlib.Omega.{arith}
use Rattle.lists.specs.Lists.{one}
use Rattle.record_reader.proofs.Counting.{counted_start, counted_step}
use Rattle.record_reader.proofs.count_repeats.Goals as goal
use Rattle.record_reader.proofs.count_repeats.Goals.{In-loop-k, else-is_repeat, then-is_repeat}

pub loop-k-init : goal.loop-k-init
loop-k-init c = counted_start c.args.file.now c.args.start

pub loop-k-preserved : goal.loop-k-preserved
loop-k-preserved c =
    let told = c.is_repeat in
    counted_step c.loop-k.invariant c.link.ensures told.ensures
    (elim c.if-is_repeat.branch [ then-is_repeat w ↦ omega (arith, ap one w.if-is_repeat.true) | else-is_repeat w ↦ omega (arith, ap one w.if-is_repeat.false) ])
