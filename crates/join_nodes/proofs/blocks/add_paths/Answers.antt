-- `add_paths` meets its contract: each of the m left sets pairs by path with each of the c candidates, and no other counter
-- grows.
use native.Mathlib.Omega.{arith}
use borrow.Author.Rules.{rules}
use Rattle.join_check.proofs.Tallying.{tallied_each}
use Rattle.join_nodes.specs.Rows.{path_pairs}
use Rattle.join_nodes.proofs.blocks.add_paths.Goals as goal

pub overflow_mul-pairs : goal.overflow_mul-pairs
unfolding path_pairs
overflow_mul-pairs c = search rules

pub overflow_cast-result : goal.overflow_cast-result
unfolding path_pairs
overflow_cast-result c = search rules

pub overflow_add-result : goal.overflow_add-result
unfolding path_pairs
overflow_add-result c = search rules

pub returns : goal.returns
unfolding path_pairs
returns c = record { tallied = tallied_each (omega arith) (omega arith) (omega arith) (omega arith) }
