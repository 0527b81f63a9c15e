-- `join_check::gather::child_depth` meets its contract.
use Rattle.join_index.proofs.Orders.{range_left}
use Rattle.join_check.proofs.gather.child_depth.Goals as goal

pub key_at-requires : goal.key_at-requires
key_at-requires c =
    record { query = c.requires.some_query.query; holds = range_left c.requires.some_query.holds c.args.i c.requires.some_query.holds.some c.word_at-k.ensures }
