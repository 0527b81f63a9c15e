-- `merge_rows::paths::take_path` meets its contract: the items with ranks up to the border are those on the path.
use Prim.Native.Nat.{ℕ}
use mathlib.Core.Path.{◌≡◌, ap, ◌∙◌}
use mathlib.Core.List.{List}
use mathlib.Core.Bool.{true}
use native.Mathlib.Omega.{arith}
use borrow.Author.Tests.{eqb-true, le-leb}
use lib.Dec.{eqb, leb}
use lib.ListN.{length, get_or}
use Rattle.lists.specs.Lists.{keep, memb}
use Rattle.lists.proofs.Bools.{and_both}
use Rattle.lists.proofs.Counting.{count_bound}
use Rattle.lists.proofs.Filtering.{keep_agree, memb-keep, length-keep}
use Rattle.lists.proofs.Membership.{memb-some}
use Rattle.lists.proofs.Throughout.{any_elim}
use Rattle.merge_rows.specs.FirstRanks.{on_path, path_of, PathRoom, PathTaken, Border, UpToTaken}
use Rattle.merge_rows.proofs.paths.take_path.Goals as goal

path_taken : {limit : ℕ} {ranks set was is : List ℕ} {last n : ℕ} → PathRoom limit ranks set was → Border limit ranks set last
    → UpToTaken ranks set last is n → length is ≡ length was → PathTaken limit ranks set is n
unfolding path_of
path_taken {limit} {ranks} {set} {was} {is} {last} {n} room border taken same =
    record {
      some =
          any_elim (λ (x : ℕ). eqb (get_or ranks x 0) last) set border.some
          (λ x there e.
          let up : leb (get_or ranks x 0) last ≡ true =
          le-leb (get_or ranks x 0) last (omega (arith, eqb-true (get_or ranks x 0) last e))
          in
          let kept = keep (λ y. leb (get_or ranks y 0) last) set in
          let in-it : memb x kept ≡ true = memb-keep (λ y. leb (get_or ranks y 0) last) set x ∙ and_both there up in
          omega (arith, memb-some x kept in-it, length-keep (λ y. leb (get_or ranks y 0) last) set, taken.size));
      within = omega (arith, taken.size, count_bound (λ x. leb (get_or ranks x 0) last) set, room.room);
      members = λ x.
          ap (memb x)
          (taken.is ∙ keep_agree (λ y. leb (get_or ranks y 0) last) (on_path limit ranks set) set border.upto);
    }

pub returns : goal.returns
returns c =
    path_taken c.requires c.border_rank-last.ensures c.take_up_to.ensures
    c.take_up_to.auto.path
