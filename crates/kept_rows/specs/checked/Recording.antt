-- Inner: what the checks of a row that is kept ask and answer.
use Rattle.std.specs.Prelude.{ℕ, ◌+◌, ◌-◌, ◌≤◌, ◌≡◌, List, length, take}
use Rattle.lists.specs.Lists.{keep, slice}
use Rattle.join_spec.specs.Query.{Query}
use Rattle.join_index.specs.declared.Layout.{Layout}
use Rattle.join_check.specs.declared.Tally.{Tally}
use Rattle.join_check.specs.Checks.{RowThere, RowChecked}
use Rattle.kept_rows.specs.Kept.{contained_at, containing, RowsKept}
use Rattle.kept_rows.specs.declared.Progress.{Progress}

-- the left set k can be checked so; the places, in their order, miss no right set that contains it; and from top on there is room for
-- all of them
pub record RowRecordable (lay : Layout) (q : Query) (w : List ℕ) (k e from to top : ℕ) : Type 0 where
  pub row : RowThere lay q w k e from to
  pub rows : RowsKept lay q w top
  pub below : to ≤ lay.row_starts
  pub room : top + (to - from) ≤ lay.end
  pub complete : containing q k ≡ keep (contained_at q k) (slice from to w)

-- w became w': the left set was checked, and its row is kept
pub record RowRecorded (lay : Layout) (w : List ℕ) (k e from to : ℕ) (tally : Tally) (top : ℕ) (w' : List ℕ) (r : Progress)
    : Type 0 where
  pub size : length w' ≡ length w
  pub frame : take lay.row_starts w' ≡ take lay.row_starts w
  pub checked : RowChecked lay w k e from to tally r.tally
  pub rows : (q : Query) → RowRecordable lay q w k e from to top → RowsKept lay q w' r.top
  pub past : (q : Query) → RowRecordable lay q w k e from to top → r.top ≡ top + length (containing q k)
