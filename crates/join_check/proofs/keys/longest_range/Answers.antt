use Prim.Native.Nat.{◌-◌}
use lib.Dec.{ltb}
use Rattle.join_check.specs.keys.Borders.{first_border, next_border}
use Rattle.join_check.proofs.keys.FoundRanges.{found_start, found_step}
use Rattle.join_check.proofs.keys.longest_range.Goals as goal

pub loop-i-init : goal.loop-i-init
loop-i-init c =
    (next_border first_border c.requires.holds.some c.range_end-i.ensures, found_start c.range_end-i.ensures)

pub loop-i-preserved : goal.loop-i-preserved
loop-i-preserved c =
    let best = c.loop-i.best in
    let inv = c.loop-i.invariant in (
      next_border inv.0 c.loop-i-test.true c.range_end-j.ensures,
      found_step (ltb (best.hi - best.lo) (c.range_end-j.result - c.loop-i.i)) inv.0 c.range_end-j.ensures
          inv.1 c.longer-best.ensures,
    )
