-- Inner: the rows that the work list keeps above its slots. A kept row has the places of all right sets that contain its left set,
-- rising; which left sets have one is not said.
use Rattle.std.specs.Prelude.{ℕ, ◌+◌, ◌≤◌, ◌<◌, ◌≡◌, List, [], Bool, length, get_or}
use Rattle.lists.specs.Lists.{keep, slice, upto}
use Rattle.sets.specs.Collections.{contained}
use Rattle.join_spec.specs.Query.{Query}
use Rattle.join_index.specs.declared.Layout.{Layout}

-- whether the left set k is contained in the right set s
abbrev pub contained_at : Query → ℕ → ℕ → Bool
contained_at q k s = contained (get_or q.lefts k []) (get_or q.rights s [])

-- the places of the right sets that contain the left set k, rising
abbrev pub containing : Query → ℕ → List ℕ
containing q k = keep (contained_at q k) (upto (length q.rights))

-- where the row of the left set k begins (0 if none is kept), and where it ends
abbrev pub row_start : Layout → List ℕ → ℕ → ℕ
row_start lay w k = get_or w (lay.row_starts + k) 0

abbrev pub row_end : Layout → List ℕ → ℕ → ℕ
row_end lay w k = get_or w (lay.row_ends + k) 0

-- the part of the work list is the row of the left set k, with the rows below top
pub record RowIs (lay : Layout) (q : Query) (w : List ℕ) (top k from to : ℕ) : Type 0 where
  pub low : lay.rows ≤ from
  pub order : from ≤ to
  pub high : to ≤ top
  pub is : slice from to w ≡ containing q k

-- each left set has a row or none, and all rows are below top
pub record RowsKept (lay : Layout) (q : Query) (w : List ℕ) (top : ℕ) : Type 0 where
  pub low : lay.rows ≤ top
  pub high : top ≤ lay.end
  pub row : (k : ℕ) → k < length q.lefts → 0 < row_start lay w k → RowIs lay q w top k (row_start lay w k) (row_end lay w k)
