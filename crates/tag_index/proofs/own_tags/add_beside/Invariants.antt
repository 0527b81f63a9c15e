-- `tag_index::own_tags::add_beside` meets its contract. The invariant: k tags of the record were added, for all tags that the set may have had
-- before, and to a set that had none (`Going`).
use mathlib.Core.List.{List, []}
use Prim.Native.Nat.{ℕ}
use Rattle.tag_index.specs.tag_adding.Adding.{Adding}
use Rattle.tag_index.proofs.tag_adding.AddLaws.{Going}
use Rattle.tag_index.proofs.own_tags.add_beside.Given as goal

abbrev pub invariant-loop-k : goal.invariant-loop-k
invariant-loop-k l =
    ((done : List ℕ) → Adding done l.initial.index l.initial.tag_count l.initial.distinct l.initial.seen
    → Going done l.file l.start l.initial.tag_count l.initial.index l.k l.tag_count l.distinct l.index l.seen)
    × Going [] l.file l.start l.initial.tag_count l.initial.index l.k l.tag_count l.own l.index l.alone
