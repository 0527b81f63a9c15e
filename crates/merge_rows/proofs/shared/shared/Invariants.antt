-- `merge_rows::shared::shared` meets its contract. The invariant: those digits of the word so far that the items left have are the
-- shared ones.
use Prim.Native.Nat.{ℕ, ◌+◌}
use mathlib.Core.Path.{◌≡◌}
use mathlib.Core.List.{List}
use mathlib.Core.Bool.{Bool, ◌&&◌}
use lib.ListN.{drop}
use Rattle.lists.specs.Lists.{all}
use Rattle.bit_sets.specs.BitSets.{bit_at}
use Rattle.merge_rows.specs.Words.{digit}
use Rattle.merge_rows.proofs.shared.shared.Given as goal

-- the digits of a word that the items from e on have
abbrev pub shared_from : List ℕ → ℕ → List ℕ → ℕ → ℕ → ℕ → Bool
shared_from w from list e word j = bit_at word j && all (λ x. digit w (from + x) j) (drop e list)

abbrev pub invariant-loop-item : goal.invariant-loop-item
invariant-loop-item l = (j : ℕ) → shared_from l.work l.from l.list l.item-index l.rest j ≡ shared_from l.work l.from l.list 0 l.word j
