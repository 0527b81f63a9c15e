-- `merge_rows::left::same_items` meets its contract. The invariant: the lists are equally long, and the first e items are equal.
use Prim.Native.Nat.{ℕ, ◌<◌}
use mathlib.Core.Path.{◌≡◌}
use lib.ListN.{length, get_or}
use Rattle.merge_rows.proofs.left.same_items.Given as goal

abbrev pub invariant-loop-e : goal.invariant-loop-e
invariant-loop-e l = (length l.a ≡ length l.b) × ((k : ℕ) → k < l.e → get_or l.a k 0 ≡ get_or l.b k 0)
