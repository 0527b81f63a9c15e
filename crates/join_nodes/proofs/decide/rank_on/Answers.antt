-- `rank_on` meets its contract: the left set that is read begins with the path, so its key there is one more than the path's
-- rank.
use native.Mathlib.Omega.{arith}
use Rattle.join_nodes.proofs.NodeFacts.{on_word, on_read}
use Rattle.join_nodes.proofs.decide.rank_on.Goals as goal

pub key_at-requires : goal.key_at-requires
key_at-requires c =
    record { query = c.requires.query; holds = on_word c.requires.holds c.word_at-k.ensures }

pub overflow_sub-result : goal.overflow_sub-result
overflow_sub-result c =
    omega (arith, on_read c.requires.holds c.word_at-k.ensures c.key_at.ensures)

pub returns : goal.returns
returns c =
    λ q path on. omega (arith, on_read on c.word_at-k.ensures c.key_at.ensures)
