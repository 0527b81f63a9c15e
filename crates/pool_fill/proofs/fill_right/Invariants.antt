-- `pool_fill::fill_right` meets its contract. The invariants: the first file's right sets that were passed stand with room for
-- their unions (`FirstWalk`); then each stands with what the records seen add to it, and the new ones behind (`SecondWalk`). The
-- measures are how many bytes of each file are left.
use mathlib.Core.List.{List}
use Prim.Native.Nat.{ℕ, ◌-◌}
use lib.ListN.{length}
use Rattle.tag_index.specs.Index.{table_of}
use Rattle.pool_fill.proofs.FirstWalk.{FirstWalk}
use Rattle.pool_fill.proofs.SecondWalk.{SecondWalk}
use Rattle.pool_fill.proofs.fill_right.Given as goal

abbrev pub invariant-loop-side : goal.invariant-loop-side
invariant-loop-side l = FirstWalk l.first l.second (table_of l.index l.n) l.used l.initial.slots l.initial.numbers l.initial.ends l.initial.items l.slots l.numbers l.ends l.items l.marks l.done l.at

abbrev pub decreases-loop-side : goal.decreases-loop-side
decreases-loop-side l = length l.first - l.at

-- the lists at the function's start are not among these: what holds where the loop starts, of whichever lists, holds on
abbrev pub invariant-loop-side-2 : goal.invariant-loop-side-2
invariant-loop-side-2 l =
    (n₀ e₀ i₀ : List ℕ)
    → SecondWalk l.first l.second (table_of l.index l.n) l.used n₀ e₀ i₀ l.slots l.initial.numbers l.initial.ends l.initial.items l.initial.marks l.initial.done l.initial.on
    → SecondWalk l.first l.second (table_of l.index l.n) l.used n₀ e₀ i₀ l.slots l.numbers l.ends l.items l.marks l.done l.on

abbrev pub decreases-loop-side-2 : goal.decreases-loop-side-2
decreases-loop-side-2 l = length l.second - l.on
