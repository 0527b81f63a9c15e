-- `signatures::sign_collections` meets its contract: the right sets, then the left sets above them.
use native.Mathlib.Omega.{arith}
use Rattle.signatures.proofs.SigningSets.{both_signed}
use Rattle.signatures.proofs.sign_collections.Goals as goal

pub sign_sets-requires-2 : goal.sign_sets-requires-2
sign_sets-requires-2 c =
    record {
      room = record {
        within = c.requires.left_within;
        room = omega (arith, c.sign_sets.ensures.size, c.requires.room);
      };
      positions = c.position_table-table.ensures;
    }

pub returns : goal.returns
returns c =
    both_signed c.requires c.sign_sets.ensures c.sign_sets-2.ensures
