use Prim.Native.Nat.{ℕ, ◌+◌, ◌≤◌, ◌<◌}
use mathlib.Core.Path.{◌≡◌}
use mathlib.Core.List.{List, ◌++◌}
use native.Mathlib.Omega.{arith}
use lib.ListN.{length, drop}
use Rattle.lists.proofs.Slices.{changed_none}
use Rattle.lists.proofs.Writing.{writing_start, writing_step, writing_end, writing_room, written_whole}
use Rattle.join_spec.specs.Query.{Query}
use Rattle.sets.specs.Collections.{contained}
use Rattle.join_spec.specs.PairList.{pairs_from, pair_list}
use Rattle.join_spec.proofs.PairListLaws.{length-pair_list}
use Rattle.join_index.specs.declared.Layout.{Layout}
use Rattle.join_index.proofs.Reading.{index_frame}
use Rattle.kept_rows.proofs.RowLaws.{rows_framed}
use Rattle.join_pairs.proofs.shortlists.Meeting.{changed_then}
use Rattle.join_pairs.specs.left_search.LeftRows.{row_at, LeftRoom, LeftWritten}
use Rattle.join_pairs.specs.Writing.{PairsRoom}
use Rattle.join_pairs.proofs.PairRows.{pairs_next, pairs_none}
use Rattle.join_pairs.proofs.write_pairs.Invariants.{PairsWriting}
use Rattle.join_pairs.proofs.write_pairs.Goals as goal

list_room : {lay : Layout} {q : Query} {w : List ℕ} {lefts : ℕ} {was : List ℕ} → PairsRoom lay q w lefts was
    → length (pair_list q.lefts q.rights) ≤ length was
list_room {lay} {q} there = omega (arith, there.room, length-pair_list q.lefts q.rights)

module _ {lay : Layout} {w : List ℕ} {lefts : ℕ} {was v pairs : List ℕ} {n k : ℕ}
    (writing : PairsWriting lay w lefts was v pairs n k)
  where
    left-room : k < lefts → {q : Query} → PairsRoom lay q w lefts was → LeftRoom lay q v k n pairs
    left-room more {q} there =
        record {
          left =
              record {
                index = index_frame writing.changed.low writing.changed.size there.index;
                below = omega (arith, there.left_count);
              };
          top = there.top;
          rows = rows_framed there.index.ground writing.changed.high there.rows;
          room =
              writing_room (writing.written q there) (row_at q k) (pairs_from contained (k + 1) (drop (k + 1) q.lefts) q.rights)
              (pairs_next q k (omega (arith, there.left_count)));
        }

    pairs-step : k < lefts → {u out : List ℕ} {r : ℕ} → LeftWritten lay v k n pairs u out r
        → PairsWriting lay w lefts was u out r (k + 1)
    pairs-step more wrote =
        record {
          changed = changed_then writing.changed wrote.changed;
          written = λ q there.
              writing_step (writing.written q there) (pairs_next q k (omega (arith, there.left_count)))
              (wrote.wrote q (left-room more there));
        }

    pairs_end : lefts ≤ k → (q : Query) → PairsRoom lay q w lefts was
        → pairs ≡ pair_list q.lefts q.rights ++ drop (length (pair_list q.lefts q.rights)) was
    pairs_end past q there =
        written_whole (writing_end (writing.written q there) (pairs_none q k (omega (arith, there.left_count)))) (list_room there)

pub loop-k-init : goal.loop-k-init
loop-k-init c =
    let a = c.args in (
      record {
        changed = changed_none a.lay.slots a.lay.row_starts a.work.now;
        written = λ q there. writing_start a.pairs.now 0 (pair_list q.lefts q.rights)
            (omega (arith, list_room there));
      },
      c.requires.clear,
    )

pub write_left-n-requires : goal.write_left-n-requires
write_left-n-requires c =
    record {
      some_query = record {
        query = c.requires.some_query.query;
        holds = left-room c.loop-k.invariant.0 c.loop-k-test.true c.requires.some_query.holds;
      };
      clear_2 = c.loop-k.invariant.1;
    }

pub loop-k-preserved : goal.loop-k-preserved
loop-k-preserved c =
    (pairs-step c.loop-k.invariant.0 c.loop-k-test.true c.write_left-n.ensures.wrote, c.write_left-n.ensures.clear)

pub returns : goal.returns
returns c = pairs_end c.loop-k.invariant.0 c.loop-k-test.false
