-- `signatures::item_bits::position_of` meets its contract: the entry at the item's remainder is its position.
use Rattle.signatures.proofs.item_bits.Entries.{entry_position}
use Rattle.signatures.proofs.item_bits.position_of.Goals as goal

pub returns : goal.returns
returns c = rw c.requires (entry_position c.args.item)
