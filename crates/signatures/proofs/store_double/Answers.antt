-- `signatures::store_double` meets its contract: the low word and then the high word.
use native.Mathlib.Omega.{arith}
use lib.ListN.{length-set}
use Rattle.signatures.proofs.Signing.{stored_words}
use Rattle.signatures.proofs.store_double.Goals as goal

pub bounds-work-at-2 : goal.bounds-work-at-2
bounds-work-at-2 c = simp length-set (omega arith)

pub returns : goal.returns
returns c = stored_words c.args.work.now c.args.at c.args.number c.requires
