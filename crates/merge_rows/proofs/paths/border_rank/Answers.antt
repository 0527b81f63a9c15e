-- `merge_rows::paths::border_rank` meets its contract: as many ranks are marked as the set has items, and the limit's one is the border.
use Prim.Native.Nat.{ℕ, ◌*◌, ◌≤◌}
use mathlib.Core.Path.{◌≡◌, ◌∙◌}
use mathlib.Core.List.{List}
use mathlib.Core.Bool.{true}
use native.Mathlib.Omega.{arith}
use borrow.Author.Tests.{lt-ltb}
use lib.Dec.{ltb}
use lib.ListN.{length, get_or, replicate}
use Rattle.lists.specs.Lists.{count, upto}
use Rattle.lists.proofs.Counting.{count_agree, count-true}
use Rattle.bit_sets.specs.BitSets.{member}
use Rattle.bit_sets.proofs.Members.{no_member}
use Rattle.merge_rows.specs.FirstRanks.{Ranked, RanksMarked}
use Rattle.merge_rows.proofs.RankCounts.{rank_low}
use Rattle.merge_rows.proofs.PathLaws.{marked_below, nth_border}
use Rattle.merge_rows.proofs.paths.border_rank.Goals as goal

-- a set has as many marks as items
marks_all : {ranks set is : List ℕ} (n : ℕ) → Ranked ranks set → RanksMarked ranks set (replicate n 0) is → length ranks ≤ 64 * length is
    → count (member is) (upto (64 * length is)) ≡ length set
marks_all {ranks} {set} {is} n ranked marked wide =
    marked_below ranked marked (no_member n) (64 * length is)
    ∙ count_agree (λ x. ltb (get_or ranks x 0) (64 * length is)) (λ x. true) set
    (λ x there.
    let low = rank_low (length ranks) ranks ranked.permutation set ranked.good x there in
    lt-ltb (get_or ranks x 0) (64 * length is) (omega arith))
    ∙ count-true set

pub nth_member-requires : goal.nth_member-requires
nth_member-requires c =
    record {
      some = c.requires.some;
      enough = omega (arith, marks_all 64 c.requires.ranked c.mark_ranks.ensures (omega (arith, c.mark_ranks.ensures.size, c.requires.ranked.few)), c.requires.longer);
      few = omega (arith, c.mark_ranks.ensures.size);
    }

pub returns : goal.returns
returns c =
    nth_border c.requires.ranked c.mark_ranks.ensures (no_member 64) c.nth_member.ensures
