-- `signatures::item_bits::position_table` meets its contract: the 256 entries and the powers are computed and compared, once.
use mathlib.Core.Path.{refl}
use Rattle.lists.specs.Lists.{range}
use Rattle.sets.specs.Signatures.{position}
use Rattle.signatures.proofs.item_bits.position_table.Goals as goal

pub returns : goal.returns
unfolding range position
returns c = refl
