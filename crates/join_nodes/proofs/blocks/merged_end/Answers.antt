-- `merged_end` meets its contract: where the first left set goes on after depth d there is none; else the range of those with key 0
-- begins there.
use Rattle.join_index.proofs.Orders.{range_left}
use Rattle.join_nodes.proofs.blocks.GroupSteps.{none_ended, some_ended}
use Rattle.join_nodes.proofs.blocks.merged_end.Goals as goal

pub key_at-requires : goal.key_at-requires
key_at-requires c =
    let there = c.requires.holds in
    record {
      query = c.requires.query;
      holds = range_left there c.args.lo there.some c.word_at-k.ensures;
    }

pub returns-then-key_at-ne0 : goal.returns-then-key_at-ne0
returns-then-key_at-ne0 c =
    none_ended c.word_at-k.ensures c.key_at.ensures c.requires.holds.some c.if-key_at-ne0.true

pub returns : goal.returns
returns c =
    some_ended c.word_at-k.ensures c.key_at.ensures c.if-key_at-ne0.false c.range_end.ensures
