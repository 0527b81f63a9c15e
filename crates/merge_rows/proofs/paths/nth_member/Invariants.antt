-- `merge_rows::paths::nth_member` meets its contract. The invariant: of the members, those in the words before w and the ones that are
-- left to pass are n.
use Prim.Native.Nat.{ℕ, ◌+◌, ◌*◌, ◌<◌}
use mathlib.Core.Path.{◌≡◌}
use mathlib.Core.List.{List}
use Rattle.lists.specs.Lists.{count, upto}
use Rattle.bit_sets.specs.BitSets.{member}
use Rattle.merge_rows.proofs.paths.nth_member.Given as goal

pub record MembersLeft (words : List ℕ) (n left w : ℕ) : Type 0 where
  pub some : 0 < left
  pub total : count (member words) (upto (64 * w)) + left ≡ n

abbrev pub invariant-loop-w : goal.invariant-loop-w
invariant-loop-w l = MembersLeft l.words l.n l.left l.w
