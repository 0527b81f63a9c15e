-- `count_holders` meets its contract: offsets rise.
use native.Mathlib.Omega.{arith}
use Rattle.join_pairs.proofs.shortlists.Inverted.{inverted_stored}
use Rattle.join_pairs.proofs.shortlists.count_holders.Goals as goal

pub overflow_sub-result : goal.overflow_sub-result
overflow_sub-result c =
    let s = inverted_stored c.requires.holds in omega arith
