-- `join_pairs::shortlists::list_of` meets its contract: the inverted list of a rank lies between two offsets.
use native.Mathlib.Omega.{arith}
use Rattle.join_pairs.proofs.shortlists.Inverted.{inverted_stored}
use Rattle.join_pairs.proofs.shortlists.list_of.Goals as goal

pub overflow_add-from : goal.overflow_add-from
overflow_add-from c =
    let s = inverted_stored c.requires.holds in omega arith

pub overflow_add-to : goal.overflow_add-to
overflow_add-to c =
    let s = inverted_stored c.requires.holds in omega arith
