-- The node's children before the longest one are checked, and then those behind it, so that the longest one is left; the children go
-- from the front. The candidates of what is left are the node's.
use native.Mathlib.Omega.{arith}
use Rattle.join_check.proofs.gather.Gathering.{left_part, left_front, left_back, left_none, left_end}
use Rattle.join_check.proofs.gather.+gather_gather_children.Goals as goal

pub gather-check_range-requires : goal.gather-check_range-requires
gather-check_range-requires t c =
    let inv = c.loop-at.invariant in
    let at = c.loop-at.at in
    let part = left_part inv.3 at.lo at.hi (omega arith) (omega arith) (omega arith) c.requires.some_query c.requires.from_bound in
    rw (inv.1, inv.2) (record { some_query = part.0; from_bound = part.1 })

pub gather-returns-then-limit-at : goal.gather-returns-then-limit-at
gather-returns-then-limit-at t c =
    let inv = c.loop-at.invariant in
    left_end inv.3 (rw (inv.1, inv.2) at c.check_range.ensures)

pub gather-gather_children-r-requires : goal.gather-gather_children-r-requires
gather-gather_children-r-requires t c =
    let inv = c.loop-at.invariant in
    let found = c.longest_range-longest.ensures in
    let more = c.if-limit-at.false in (
      omega (arith, c.decreases, inv.0, more),
      (
        more,
        rw (inv.1, inv.2)
            (left_part inv.3 _ _ (omega arith) (omega (arith, found.low)) (omega (arith, found.end)) c.requires.some_query c.requires.from_bound),
      ),
    )

-- those before it were checked
pub gather-gather_children-r-requires-in-loop-at : goal.gather-gather_children-r-requires-in-loop-at
gather-gather_children-r-requires-in-loop-at t c =
    let inv = c.loop-at.invariant in
    let found = c.longest_range-longest.ensures in
    let more = c.if-limit-at.false in
    let before = rw (inv.1, inv.2) at c.gather_children-r.ensures in
    let behind = left_front inv.3 found.low (omega (arith, found.end.more, found.end.within)) before in (
      omega (arith, c.decreases, inv.0, more),
      (
        more,
        rw (inv.1, inv.2)
            (left_part behind _ _ (omega (arith, found.end)) (omega (arith, found.end)) (omega arith) c.requires.some_query c.requires.from_bound),
      ),
    )

-- and those behind it: the longest one is left
pub gather-loop-at-preserved : goal.gather-loop-at-preserved
gather-loop-at-preserved t c =
    let inv = c.loop-at.invariant in
    let found = c.longest_range-longest.ensures in
    let before = rw (inv.1, inv.2) at c.gather_children-r.ensures in
    let after = rw (inv.1, inv.2) at c.gather_children-r-in-loop-at.ensures in
    let behind = left_front inv.3 found.low (omega (arith, found.end.more, found.end.within)) before in (
      omega (arith, inv.0, c.child_depth.ensures),
      inv.1,
      inv.2,
      left_back behind (omega (arith, found.end.more)) found.end.within after,
    )

pub gather-returns : goal.gather-returns
gather-returns t c = left_none c.loop-at.invariant.3 c.loop-at-test.false

-- the next child, as its checks ask it
pub gather_children-gather-r-requires : goal.gather_children-gather-r-requires
gather_children-gather-r-requires t c =
    let end = c.range_end-j.ensures in (
      omega (arith, c.decreases, c.requires.d_lt_limit, c.child_depth.ensures),
      left_part c.loop-i.invariant _ _ (omega arith) (omega (arith, end.more)) end.within c.requires.some_query c.requires.from_bound,
    )

pub gather_children-loop-i-preserved : goal.gather_children-loop-i-preserved
gather_children-loop-i-preserved t c =
    let range = c.range_end-j.ensures in
    left_front c.loop-i.invariant (omega (arith, range.more)) range.within c.gather-r.ensures

pub gather_children-returns : goal.gather_children-returns
gather_children-returns t c = left_none c.loop-i.invariant c.loop-i-test.false
