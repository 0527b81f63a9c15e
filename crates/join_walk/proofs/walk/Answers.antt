-- `walk` meets its contract: no row is kept at first. No left set, nothing to count; else the empty left sets stand first, and the
-- partitions follow.
use mathlib.Core.Path.{◌≡◌, refl, ◌∙◌}
use native.Mathlib.Omega.{arith}
use Rattle.join_spec.specs.Kinds.{Kind, path_pair, confirmed_check, dropped_check, false_check}
use Rattle.join_check.specs.Counters.{counter}
use Rattle.join_walk.proofs.WalkSteps.{walk_none, walk_range, walk_partitions, walk_done}
use Rattle.join_walk.proofs.WalkSteps.{ready_cleared, rows_cleared, done_cleared}
use Rattle.join_walk.proofs.walk.Goals as goal

-- no counter has anything at first
none_zero : (kind : Kind) → counter kind (record { by_path = 0; confirmed = 0; dropped = 0; false_drops = 0 }) ≡ 0
none_zero path_pair = refl
none_zero confirmed_check = refl
none_zero dropped_check = refl
none_zero false_check = refl

pub clear_rows-requires : goal.clear_rows-requires
clear_rows-requires c =
    record { query = c.requires.some_query.query; holds = record { index = c.requires.some_query.holds.index; left_count = c.requires.some_query.holds.left_count } }

pub shape_of-work-then-lefts-eq0 : goal.shape_of-work-then-lefts-eq0
shape_of-work-then-lefts-eq0 c = c.clear_rows.auto.work

pub returns-then-lefts-eq0 : goal.returns-then-lefts-eq0
returns-then-lefts-eq0 c =
    record {
      walked = λ q ready.
          done_cleared ready c.clear_rows.ensures (walk_none (ready_cleared ready c.clear_rows.ensures) c.if-lefts-eq0.true none_zero (rows_cleared ready c.clear_rows.ensures));
      clear = c.requires.clear_2;
    }

pub merged_end-mid-requires : goal.merged_end-mid-requires
merged_end-mid-requires c =
    record {
      query = c.requires.some_query.query;
      holds = walk_range (ready_cleared c.requires.some_query.holds c.clear_rows.ensures) (omega (arith, c.if-lefts-eq0.false));
    }

pub visit_partitions-requires : goal.visit_partitions-requires
visit_partitions-requires c =
    record {
      some_query = record {
        query = c.requires.some_query.query;
        holds =
            walk_partitions (ready_cleared c.requires.some_query.holds c.clear_rows.ensures) (omega (arith, c.if-lefts-eq0.false)) c.merged_end-mid.ensures
            none_zero (rows_cleared c.requires.some_query.holds c.clear_rows.ensures);
      };
      clear_2 = c.requires.clear_2;
    }

pub shape_of-work : goal.shape_of-work
shape_of-work c =
    c.visit_partitions.auto.work ∙ c.clear_rows.auto.work

pub returns : goal.returns
returns c =
    record {
      walked = λ q ready.
          let so = ready_cleared ready c.clear_rows.ensures in
          let parts =
          walk_partitions so (omega (arith, c.if-lefts-eq0.false)) c.merged_end-mid.ensures none_zero (rows_cleared ready c.clear_rows.ensures) in
          done_cleared ready c.clear_rows.ensures
          (walk_done so (omega (arith, c.if-lefts-eq0.false)) c.merged_end-mid.ensures none_zero
          (c.visit_partitions.ensures.visited q parts));
      clear = c.visit_partitions.ensures.clear;
    }
