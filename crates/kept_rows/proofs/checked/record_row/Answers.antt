use native.Mathlib.Omega.{arith}
use Rattle.kept_rows.proofs.checked.RecordLaws.{recording_start, recording_step, recording_end, recording_grows}
use Rattle.kept_rows.proofs.checked.RecordLaws.{recording_right, recording_rising}
use Rattle.kept_rows.proofs.checked.record_row.Goals as goal

pub loop-i-init : goal.loop-i-init
loop-i-init c = recording_start

pub check_one-r-requires : goal.check_one-r-requires
check_one-r-requires c =
    let there = c.requires.some_query.holds in
    record {
      some_query = record {
        query = c.requires.some_query.query;
        holds = recording_right c.loop-i.invariant there c.loop-i-test.true c.word_at-s.ensures;
      };
      rising = recording_rising c.loop-i.invariant there c.probe_left-p.ensures;
      tally_bound = omega (arith, c.loop-i.invariant.checking.grown, c.requires.from_bound, c.loop-i-test.true);
    }

pub overflow_sub-n : goal.overflow_sub-n
overflow_sub-n c =
    recording_grows c.loop-i.invariant c.requires.some_query c.loop-i-test.true
    c.word_at-s.ensures c.probe_left-p.ensures c.check_one-r.ensures

pub loop-i-preserved : goal.loop-i-preserved
loop-i-preserved c =
    recording_step c.loop-i.invariant c.requires.some_query c.loop-i-test.true
    c.word_at-s.ensures c.probe_left-p.ensures c.check_one-r.ensures

pub returns : goal.returns
returns c =
    recording_end c.loop-i.invariant c.requires.some_query c.loop-i-test.false
    c.keep_row.ensures
