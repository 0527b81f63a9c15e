-- `finish_one` meets its contract: with key 0 the left set ends at the limit, and else it is longer; then it is checked, and where
-- there is room its row is kept.
use mathlib.Core.Path.{sym, ◌∙◌}
use native.Mathlib.Omega.{arith}
use Rattle.join_index.proofs.Orders.{range_left}
use Rattle.join_nodes.proofs.Asked.{some-query}
use Rattle.join_nodes.proofs.blocks.GoingLaws.{going_range, going_there}
use Rattle.join_nodes.proofs.blocks.NodeRows.{row_record}
use Rattle.join_nodes.proofs.blocks.LimitLaws.{one_key, one_list, one_room, one_kept, one_small, one_blocked, one_recorded}
use Rattle.join_nodes.proofs.blocks.finish_one.Goals as goal

pub key_at-requires : goal.key_at-requires
key_at-requires c =
    some-query c.requires
    (λ q path at. range_left (going_range at.going (omega arith)) c.args.i (omega arith) c.word_at-k.ensures)

-- the left set ends here
pub pair_ended-at-requires : goal.pair_ended-at-requires
pair_ended-at-requires c =
    record {
      some_query = some-query c.requires
          (λ q path at.
          one_list at c.word_at-k.ensures
          (sym (one_key at c.word_at-k.ensures c.key_at.ensures) ∙ c.if-key_at-eq0.true));
      lo_le_hi = omega arith;
      is_by_path_bound = one_room c.requires.holds c.word_at-k.ensures;
    }

pub returns-then-key_at-eq0 : goal.returns-then-key_at-eq0
returns-then-key_at-eq0 c =
    λ q path at.
    one_kept at c.word_at-k.ensures
    (sym (one_key at c.word_at-k.ensures c.key_at.ensures) ∙ c.if-key_at-eq0.true) c.pair_ended-at.ensures

-- there is no room for its row
pub check_block-requires : goal.check_block-requires
check_block-requires c =
    record {
      some_query = some-query c.requires (λ q path at. going_there at.going);
      small = one_small c.requires.holds c.word_at-k.ensures
          (λ none. c.if-key_at-eq0.false (one_key c.requires.holds c.word_at-k.ensures c.key_at.ensures ∙ none));
    }

pub returns-then-lay-p : goal.returns-then-lay-p
returns-then-lay-p c =
    λ q path at.
    one_blocked at c.word_at-k.ensures
    (λ none. c.if-key_at-eq0.false (one_key at c.word_at-k.ensures c.key_at.ensures ∙ none)) c.check_block.ensures

-- there is
pub finish_row-requires : goal.finish_row-requires
finish_row-requires c =
    record {
      some_query = some-query c.requires
          (λ q path at.
          row_record at.going c.args.i (omega arith) (omega arith) c.word_at-k.ensures.is
          (omega (arith, c.if-lay-p.false, at.going.rows.high)));
      from_le_to = c.requires.holds.going.rise;
      tally_bound = c.requires.holds.going.underway.budget;
    }

pub returns : goal.returns
returns c =
    λ q path at.
    one_recorded at c.word_at-k.ensures
    (λ none. c.if-key_at-eq0.false (one_key at c.word_at-k.ensures c.key_at.ensures ∙ none))
    (omega (arith, c.if-lay-p.false, at.going.rows.high)) c.finish_row.ensures
