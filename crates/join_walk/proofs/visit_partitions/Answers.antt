use native.Mathlib.Omega.{arith}
use mathlib.Core.List.{[]}
use mathlib.Core.Path.{refl, sym, ◌∙◌}
use Rattle.join_nodes.proofs.PartLoop.{continuing_start, continuing_step, continuing_spent, continuing_end}
use Rattle.join_walk.proofs.visit.ChildSteps.{kids_range, child_rank, first_child}
use Rattle.join_walk.proofs.PartitionRanges.{partitions_done}
use Rattle.join_walk.proofs.visit_partitions.Goals as goal

pub loop-i-init : goal.loop-i-init
loop-i-init c =
    (continuing_start _ _ _ _ _ _ (record { query = c.requires.some_query.query; path = []; holds = c.requires.some_query.holds }), c.requires.clear_2)

pub range_end-j-requires : goal.range_end-j-requires
range_end-j-requires c =
    let some = c.loop-i.invariant.0.some in
    record { query = some.query; holds = kids_range some.holds c.loop-i-test.true }

pub visit_partition-requires : goal.visit_partition-requires
visit_partition-requires c =
    let inv = c.loop-i.invariant in
    let some = inv.0.some in
    record {
      some_rank = record {
        query = some.query;
        rank = child_rank some.holds c.loop-i-test.true;
        holds = first_child some.holds c.loop-i-test.true c.range_end-j.ensures;
      };
      clear_2 = inv.1;
    }

pub returns-in_err-r : goal.returns-in_err-r
returns-in_err-r c =
    record {
      visited = λ q first.
          rw c.from_residual.ensures
          (continuing_spent c.loop-i.invariant.0 (omega (arith, c.range_end-j.ensures.more)) c.range_end-j.ensures.within
          (partitions_done c.loop-i-test.true c.range_end-j.ensures c.in_err-r.ensures.visited) refl q [] first);
      clear = c.in_err-r.ensures.clear;
    }

pub loop-i-smaller : goal.loop-i-smaller
loop-i-smaller c =
    omega (arith, c.loop-i-test.true, c.range_end-j.ensures.more, c.range_end-j.ensures.within)

pub loop-i-preserved : goal.loop-i-preserved
loop-i-preserved c = (
  continuing_step c.loop-i.invariant.0 (omega (arith, c.range_end-j.ensures.more)) c.range_end-j.ensures.within
      (partitions_done c.loop-i-test.true c.range_end-j.ensures c.in_ok-r.ensures.visited)
      c.visit_partition.auto.work refl,
  c.in_ok-r.ensures.clear,
)

pub shape_of-work : goal.shape_of-work
shape_of-work c = c.loop-i.invariant.0.size

pub shape_of-flags : goal.shape_of-flags
shape_of-flags c = c.loop-i.invariant.1.size ∙ sym c.requires.clear_2.size

pub returns : goal.returns
returns c =
    let inv = c.loop-i.invariant in
    record {
      visited = λ q first.
          continuing_end inv.0 c.loop-i-test.false inv.0.some.holds.underway.budget (λ q path at. at.rows) q [] first;
      clear = inv.1;
    }
