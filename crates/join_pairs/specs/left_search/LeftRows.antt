-- Inner: the pairs of a left set, written into a list: what is asked of the room, and what is written.
use Rattle.std.specs.Prelude.{ℕ, ◌+◌, ◌≤◌, List, [], length, get_or}
use Rattle.lists.specs.Parts.{Changed}
use Rattle.lists.specs.Writing.{Put}
use Rattle.sets.specs.Collections.{contained}
use Rattle.join_spec.specs.Query.{Query}
use Rattle.join_spec.specs.PairList.{row_from}
use Rattle.join_index.specs.declared.Layout.{Layout}
use Rattle.join_index.specs.Asking.{LeftThere}
use Rattle.kept_rows.specs.Kept.{RowsKept}

-- the pairs of the left set k with all right sets that contain it: its part of the pair list
abbrev pub row_at : Query → ℕ → List ℕ
row_at q k = row_from (contained (get_or q.lefts k [])) k 0 q.rights

-- rows are kept, and there is room for the pairs of the left set k
pub record LeftRoom (lay : Layout) (q : Query) (w : List ℕ) (k at : ℕ) (pairs : List ℕ) : Type 0 where
  pub left : LeftThere lay q w k
  pub top : ℕ
  pub rows : RowsKept lay q w top
  pub room : at + length (row_at q k) ≤ length pairs

-- the pairs of the left set k were written, and of the work list only the slots changed
pub record LeftWritten (lay : Layout) (w : List ℕ) (k at : ℕ) (pairs w' pairs' : List ℕ) (r : ℕ) : Type 0 where
  pub changed : Changed lay.slots lay.row_starts w w'
  pub wrote : (q : Query) → LeftRoom lay q w k at pairs → Put pairs at (row_at q k) r pairs'
