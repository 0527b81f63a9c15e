-- Inner: the pair list, written into a list: what is asked of the room.
use Rattle.std.specs.Prelude.{ℕ, ◌*◌, ◌≤◌, ◌≡◌, List, length}
use Rattle.join_spec.specs.Query.{Query}
use Rattle.join_spec.specs.PairList.{pair_count}
use Rattle.join_index.specs.declared.Layout.{Layout}
use Rattle.join_index.specs.Asking.{Index}
use Rattle.kept_rows.specs.Kept.{RowsKept}

-- rows are kept of a query with so many left sets, and there is room for its pair list
pub record PairsRoom (lay : Layout) (q : Query) (w : List ℕ) (lefts : ℕ) (pairs : List ℕ) : Type 0 where
  pub index : Index lay q w
  pub top : ℕ
  pub rows : RowsKept lay q w top
  pub left_count : length q.lefts ≡ lefts
  pub room : 2 * pair_count q.lefts q.rights ≤ length pairs
