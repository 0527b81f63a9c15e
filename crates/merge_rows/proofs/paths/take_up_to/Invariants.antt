-- `merge_rows::paths::take_up_to` meets its contract. The invariant: what is taken and what passes among the items that are left are
-- together what is wanted.
use Prim.Native.Nat.{ℕ, ◌+◌, ◌≤◌}
use mathlib.Core.Path.{◌≡◌}
use mathlib.Core.List.{List, ◌++◌}
use mathlib.Core.Bool.{Bool}
use lib.Dec.{leb}
use lib.ListN.{length, get_or, take, drop}
use Rattle.lists.specs.Lists.{count, keep}
use Rattle.merge_rows.proofs.paths.take_up_to.Given as goal

-- whether an item has a rank up to last
abbrev pub passes : List ℕ → ℕ → ℕ → Bool
passes ranks last x = leb (get_or ranks x 0) last

pub record TakingUpTo (ranks items : List ℕ) (last : ℕ) (was is : List ℕ) (n e : ℕ) : Type 0 where
  pub taken : take n is ++ keep (passes ranks last) (drop e items) ≡ keep (passes ranks last) items
  pub total : n + count (passes ranks last) (drop e items) ≡ count (passes ranks last) items
  pub low : n ≤ e
  pub same : length is ≡ length was

abbrev pub invariant-loop-x : goal.invariant-loop-x
invariant-loop-x l = TakingUpTo l.ranks l.set l.last l.initial.path l.path l.n l.x-index
