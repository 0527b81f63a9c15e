-- Inner: the table from which the bits of the items are looked up.
use Rattle.std.specs.Prelude.{ℕ, List, map}
use Rattle.lists.specs.Lists.{upto}
use Rattle.sets.specs.Signatures.{position}

-- the positions of the items 0 to 255
abbrev pub position_table : List ℕ
position_table = map position (upto 256)
