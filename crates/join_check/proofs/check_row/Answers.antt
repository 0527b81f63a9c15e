use native.Mathlib.Omega.{arith}
use Rattle.join_index.proofs.Places.{place_right}
use Rattle.join_check.proofs.Tallying.{probe_rising}
use Rattle.join_check.proofs.RowChecks.{row_step, row_end}
use Rattle.join_check.proofs.check_row.Goals as goal

pub check_one-r-requires : goal.check_one-r-requires
check_one-r-requires c =
    let there = c.requires.some_query.holds in
    record {
      some_query = record {
        query = c.requires.some_query.query;
        holds = place_right there.places c.loop-i.i c.word_at-s.result c.loop-i.invariant.low
            c.loop-i-test.true c.word_at-s.ensures;
      };
      rising = probe_rising c.probe_left-p.ensures there.left;
      tally_bound = omega (arith, c.loop-i.invariant.grown, c.requires.from_bound, c.loop-i-test.true);
    }

pub loop-i-preserved : goal.loop-i-preserved
loop-i-preserved c =
    row_step c.loop-i.invariant c.loop-i-test.true c.probe_left-p.ensures c.word_at-s.ensures
    c.check_one-r.ensures

pub returns : goal.returns
returns c = row_end c.loop-i.invariant c.loop-i-test.false
