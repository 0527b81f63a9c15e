-- `join_pairs::write_left` meets its contract: a row that is kept has all right sets that contain the left set.
use native.Mathlib.Omega.{arith}
use Rattle.lists.proofs.Slices.{changed_none}
use Rattle.join_pairs.proofs.Copying.{row_words, row_within, kept_room, kept_put}
use Rattle.join_pairs.proofs.write_left.Goals as goal

pub overflow_add-starts : goal.overflow_add-starts
overflow_add-starts c = omega (arith, (row_words c.requires.some_query.holds).0)

pub word_at-from-requires : goal.word_at-from-requires
word_at-from-requires c = (row_words c.requires.some_query.holds).0

pub search_left-requires : goal.search_left-requires
search_left-requires c = record {
  some_query = c.requires.some_query;
  clear_2 = c.requires.clear_2;
}

pub returns-then-from-eq0 : goal.returns-then-from-eq0
returns-then-from-eq0 c = record {
  wrote = c.search_left.ensures.wrote;
  clear = c.search_left.ensures.clear;
}

pub overflow_add-ends : goal.overflow_add-ends
overflow_add-ends c = omega (arith, (row_words c.requires.some_query.holds).1)

pub word_at-to-requires : goal.word_at-to-requires
word_at-to-requires c = (row_words c.requires.some_query.holds).1

pub slice_bounds-write_kept-end : goal.slice_bounds-write_kept-end
slice_bounds-write_kept-end c =
    (row_within c.requires.some_query.holds c.word_at-from.ensures c.word_at-to.ensures (omega (arith, c.if-from-eq0.false))).1

pub write_kept-requires : goal.write_kept-requires
write_kept-requires c =
    let there = c.requires.some_query.holds in
    kept_room there c.word_at-from.ensures c.word_at-to.ensures (omega (arith, c.if-from-eq0.false))

pub returns : goal.returns
returns c =
    let a = c.args in
    record {
      wrote = record {
        changed = changed_none a.lay.slots a.lay.row_starts a.work.now;
        wrote = λ q there.
            kept_put there c.word_at-from.ensures c.word_at-to.ensures (omega (arith, c.if-from-eq0.false))
            c.write_kept.ensures;
      };
      clear = c.requires.clear_2;
    }
