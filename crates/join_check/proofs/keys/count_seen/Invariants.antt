-- `join_check::keys::count_seen` meets its contract. The invariant: the count so far and that of the places still to come are the
-- count of all.
use mathlib.Core.Path.{◌≡◌}
use mathlib.Core.List.{List}
use mathlib.Core.Bool.{Bool}
use Prim.Native.Nat.{ℕ, ◌+◌, ◌-◌, ◌≤◌}
use Rattle.lists.specs.Lists.{count, slice}
use Rattle.join_spec.specs.Query.{Query}
use Rattle.join_spec.specs.Node.{seen}
use Rattle.join_index.specs.Grouping.{right_at}
use Rattle.join_index.specs.declared.Layout.{Layout}
use Rattle.join_index.specs.Asking.{PlacesThere}
use Rattle.join_check.proofs.keys.count_seen.Given as goal

abbrev pub is_seen : Query → ℕ → ℕ → Bool
is_seen q r s = seen r (right_at q s)

pub record SeenCounting (lay : Layout) (w : List ℕ) (from to r n i : ℕ) : Type 0 where
  pub low : from ≤ i
  pub few : n ≤ i - from
  pub same :
      (q : Query) → PlacesThere lay q w from to
      → n + count (is_seen q r) (slice i to w) ≡ count (is_seen q r) (slice from to w)

abbrev pub invariant-loop-i : goal.invariant-loop-i
invariant-loop-i l = SeenCounting l.lay l.work l.from l.to l.r l.n l.i
