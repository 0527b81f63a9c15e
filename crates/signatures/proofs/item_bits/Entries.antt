-- The table of bits, by the item's remainder.
use Prim.Native.Nat.{ℕ, ◌%◌}
use mathlib.Core.Path.{◌≡◌, ◌∙◌}
use native.Mathlib.Omega.{arith}
use lib.ListN.{get_or}
use Rattle.lists.proofs.Ranges.{get_d_table}
use Rattle.sets.specs.Signatures.{position}
use Rattle.sets.proofs.Positions.{position_repeats}
use Rattle.signatures.specs.item_bits.Bits.{position_table}

-- the table's entry for an item is the item's position
pub entry_position : (item : ℕ) → get_or position_table (item % 256) 0 ≡ position item
entry_position item = get_d_table position 256 (item % 256) 0 (omega arith) ∙ position_repeats item
