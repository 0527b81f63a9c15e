-- `tag_index::tag_adding::add_tags` meets its contract. The invariant, for all tags that the set may have had before: k tags of the record were
-- added (`Going`).
use mathlib.Core.List.{List}
use Prim.Native.Nat.{ℕ}
use Rattle.tag_index.specs.tag_adding.Adding.{Adding}
use Rattle.tag_index.proofs.tag_adding.AddLaws.{Going}
use Rattle.tag_index.proofs.tag_adding.add_tags.Given as goal

abbrev pub invariant-loop-k : goal.invariant-loop-k
invariant-loop-k l =
    (done : List ℕ) → Adding done l.initial.index l.initial.tag_count l.initial.distinct l.initial.seen
    → Going done l.file l.start l.initial.tag_count l.initial.index l.k l.tag_count l.distinct l.index l.seen
