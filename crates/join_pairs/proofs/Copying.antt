-- A left set whose row is kept: its row of the pair list is that of the places kept.
use Prim.Native.Nat.{ℕ, ◌+◌, ◌-◌, ◌≤◌, ◌<◌}
use mathlib.Core.Path.{◌≡◌, refl, sym, ap, ◌∙◌}
use mathlib.Core.List.{List}
use mathlib.Core.Bool.{true}
use native.Mathlib.Omega.{arith}
use lib.Dec.{ltb}
use lib.ListN.{length, take, drop}
use borrow.Author.Tests.{lt-ltb, ltb-true}
use Rattle.lists.specs.Lists.{all, keep, upto}
use Rattle.lists.specs.Writing.{Put}
use Rattle.lists.proofs.Slices.{slice_from}
use Rattle.lists.proofs.Throughout.{all_weaken}
use Rattle.lists.proofs.Filtering.{all_keep}
use Rattle.lists.proofs.Ranges.{all_upto}
use Rattle.sets.specs.Limits.{max_sets}
use Rattle.join_spec.specs.Query.{Query}
use Rattle.join_index.specs.declared.Layout.{Layout}
use Rattle.words.specs.Words.{Word}
use Rattle.kept_rows.specs.Kept.{contained_at, RowIs}
use Rattle.kept_rows.proofs.RowLaws.{row_moved}
use Rattle.join_pairs.specs.row_pairs.Containing.{pairs_with}
use Rattle.join_pairs.specs.row_pairs.Writing.{KeptRoom}
use Rattle.join_pairs.specs.left_search.LeftRows.{row_at, LeftRoom}
use Rattle.join_pairs.proofs.left_search.LeftPairs.{row-whole}

module _ {lay : Layout} {q : Query} {w : List ℕ} {k at : ℕ} {was : List ℕ} (there : LeftRoom lay q w k at was) where
  -- the two words of the row are there
  pub row_words : (lay.row_starts + k < length w) × (lay.row_ends + k < length w)
  row_words =
      let g = there.left.index.ground in (
        omega (arith, there.left.below, g.row_starts_within, g.row_ends_within, g.rows_within, g.end_within),
        omega (arith, there.left.below, g.row_ends_within, g.rows_within, g.end_within),
      )

  module _ {from to : ℕ} (first : Word w (lay.row_starts + k) from) (second : Word w (lay.row_ends + k) to)
      (some : 0 < from) where
    row : RowIs lay q w there.top k from to
    row =
        row_moved (omega arith) first.is second.is (λ order high low. refl)
        (there.rows.row k there.left.below (omega (arith, first.is, some)))

    -- it lies within the list
    pub row_within : (from ≤ to) × (to ≤ length w)
    row_within = (row.order, omega (arith, row.high, there.rows.high, there.left.index.ground.end_within))

    abbrev part : List ℕ
    part = take (to - from) (drop from w)

    is : part ≡ keep (contained_at q k) (upto (length q.rights))
    is = sym (slice_from from to w) ∙ row.is

    same : row_at q k ≡ pairs_with k part
    same = row-whole q k ∙ ap (pairs_with k) (sym is)

    low : all (λ (s : ℕ). ltb s max_sets) part ≡ true
    low =
        let rights = length q.rights in
        ap (all (λ (s : ℕ). ltb s max_sets)) is
        ∙ all_keep (λ (s : ℕ). ltb s max_sets) (contained_at q k) (upto rights)
        (all_weaken (λ (s : ℕ). ltb s rights) (λ (s : ℕ). ltb s max_sets) (upto rights)
        (λ s below. lt-ltb s max_sets (omega (arith, ltb-true s rights below, there.left.index.ground.right_few)))
        (all_upto rights))

    pub kept_room : KeptRoom part k at was
    kept_room =
        record {
          left = omega (arith, there.left.below, there.left.index.ground.left_few);
          right = low;
          room = omega (arith, there.room, ap length same);
        }

    pub kept_put : {r : ℕ} {u : List ℕ} → Put was at (pairs_with k part) r u → Put was at (row_at q k) r u
    kept_put put = rw same put
