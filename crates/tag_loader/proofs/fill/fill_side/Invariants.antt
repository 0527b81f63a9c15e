-- `tag_loader::fill::fill_side` meets its contract. The invariant: what is written of each list and what the records still to come give
-- are together what is wanted, and no item is marked (`SideFilling`). The measure is how many bytes are left.
use Prim.Native.Nat.{◌-◌}
use lib.ListN.{length}
use Rattle.tag_index.specs.Index.{table_of}
use Rattle.tag_loader.proofs.fill.Filling.{SideFilling}
use Rattle.tag_loader.proofs.fill.fill_side.Given as goal

abbrev pub invariant-loop-kind : goal.invariant-loop-kind
invariant-loop-kind l = SideFilling l.file l.side (table_of l.index l.n) l.initial.numbers l.initial.ends l.initial.items l.marks l.numbers l.ends l.items l.done l.at

abbrev pub decreases-loop-kind : goal.decreases-loop-kind
decreases-loop-kind l = length l.file - l.at
