-- `narrow` meets its contract. Both words lie in the offsets region; at depth 1 nothing is written, and deeper `intersect` writes
-- the slot of the last rank, which begins above the candidates.
use Prim.Native.Nat.{◌+◌, ◌≤◌}
use native.Mathlib.Omega.{arith}
use lib.ListN.{length}
use Rattle.join_nodes.proofs.CandidateLaws.{first_word, last_word, inverted_read, narrowed_first, narrowed_further}
use Rattle.join_nodes.proofs.CandidateLaws.{before_rising, inverted_rising, slot_apart}
use Rattle.join_nodes.proofs.CandidateLaws.{before_small, inverted_small}
use Rattle.join_nodes.proofs.narrow.narrow.Goals as goal
use Rattle.join_nodes.proofs.narrow.narrow.Goals.{After-word_at-last}

-- the two words that were read bound a list that lies in the work list
list_low : (c : After-word_at-last)
    → let a = c.args in
    (c.word_at-first.result ≤ c.word_at-last.result) × (a.lay.index + c.word_at-last.result ≤ length a.work.now)
list_low c =
    let cands = c.requires.some_path.holds.0 in
    let held = inverted_read cands c.requires.some_path.holds.1 c.word_at-first.ensures c.word_at-last.ensures in
    (omega (arith, held.rise), omega (arith, held.within, cands.index.room))

pub overflow_add-result : goal.overflow_add-result
overflow_add-result c =
    let low = list_low (goal.at.overflow_add-result c).After-word_at-last in
    omega (arith, low.0, low.1, c.well_formed.0)

pub overflow_add-result-then-node-eq1 : goal.overflow_add-result-then-node-eq1
overflow_add-result-then-node-eq1 c = omega (arith, (list_low (goal.at.overflow_add-result-then-node-eq1 c).After-word_at-last).1, c.well_formed.0)

pub returns-then-node-eq1 : goal.returns-then-node-eq1
returns-then-node-eq1 c =
    record {
      narrowed = λ q path cands is.
          narrowed_first cands (first_word cands c.word_at-first.ensures is) (last_word cands c.word_at-last.ensures is)
          c.if-node-eq1.true;
      clear = c.requires.clear_2;
    }

pub overflow_add-index : goal.overflow_add-index
overflow_add-index c =
    let low = list_low (goal.at.overflow_add-index c).After-word_at-last in
    omega (arith, low.0, low.1, c.well_formed.0)

pub overflow_add-index-2 : goal.overflow_add-index-2
overflow_add-index-2 c = omega (arith, (list_low (goal.at.overflow_add-index-2 c).After-word_at-last).1, c.well_formed.0)

pub intersect-end-requires : goal.intersect-end-requires
intersect-end-requires c =
    let cands = c.requires.some_path.holds.0 in
    let at_first = first_word cands c.word_at-first.ensures c.requires.some_path.holds.1 in
    let at_last = last_word cands c.word_at-last.ensures c.requires.some_path.holds.1 in
    record {
      rising = before_rising cands at_first at_last (omega (arith, cands.deep));
      rising_2 = inverted_rising cands at_first at_last;
      apart = slot_apart cands at_first at_last;
      below = before_small cands at_first at_last (omega (arith, cands.deep));
      below_2 = inverted_small cands at_first at_last;
      clear_2 = c.requires.clear_2;
    }

pub returns : goal.returns
returns c =
    record {
      narrowed = λ q path cands is.
          narrowed_further cands (first_word cands c.word_at-first.ensures is) (last_word cands c.word_at-last.ensures is)
          (omega (arith, cands.deep)) c.intersect-end.ensures.shared;
      clear = c.intersect-end.ensures.clear;
    }
