-- Inner: what the functions that keep rows as they stand ask and answer. Nothing below the rows' words changes.
use Rattle.std.specs.Prelude.{ℕ, ◌+◌, ◌≤◌, ◌<◌, ◌≡◌, List, length, set, take}
use Rattle.lists.specs.Lists.{slice}
use Rattle.sets.specs.Limits.{full_words}
use Rattle.join_spec.specs.Query.{Query}
use Rattle.join_index.specs.declared.Layout.{Layout}
use Rattle.join_index.specs.Asking.{Index}
use Rattle.join_index.specs.Ranges.{left_in}
use Rattle.kept_rows.specs.Kept.{containing, RowIs, RowsKept}

-- the index of a query with so many left sets
pub record ClearThere (lay : Layout) (q : Query) (w : List ℕ) (lefts : ℕ) : Type 0 where
  pub index : Index lay q w
  pub left_count : length q.lefts ≡ lefts

-- w became w': no row is kept
pub record Cleared (lay : Layout) (w : List ℕ) (lefts : ℕ) (w' : List ℕ) : Type 0 where
  pub size : length w' ≡ length w
  pub frame : take lay.row_starts w' ≡ take lay.row_starts w
  pub rows : (q : Query) → ClearThere lay q w lefts → RowsKept lay q w' lay.rows

-- there are words for the row of k, and its places fit them
pub record WordsRoom (lay : Layout) (k from to : ℕ) (w : List ℕ) : Type 0 where
  pub start : lay.row_starts + k < length w
  pub end : lay.row_ends + k < length w
  pub from_small : from < full_words
  pub to_small : to < full_words

-- the words of the row of k say where it begins and ends
abbrev pub row_stored : Layout → ℕ → ℕ → ℕ → List ℕ → List ℕ
row_stored lay k from to w = set (set w (lay.row_starts + k) from) (lay.row_ends + k) to

-- the part of the work list, at the end of the rows, is the row of each left set in left_order[lo..hi]
pub record ShareThere (lay : Layout) (q : Query) (w : List ℕ) (lo hi from to : ℕ) : Type 0 where
  pub index : Index lay q w
  pub rows : RowsKept lay q w to
  pub within : hi ≤ length q.lefts
  pub is : (i : ℕ) → lo ≤ i → i < hi → RowIs lay q w to (left_in lay w i) from to

-- w became w': it is kept as theirs
pub record Shared (lay : Layout) (w : List ℕ) (lo hi from to : ℕ) (w' : List ℕ) : Type 0 where
  pub size : length w' ≡ length w
  pub frame : take lay.row_starts w' ≡ take lay.row_starts w
  pub rows : (q : Query) → ShareThere lay q w lo hi from to → RowsKept lay q w' to

-- work[from..to], below the rows, lists the right sets that contain each left set in left_order[lo..hi]
pub record ListThere (lay : Layout) (q : Query) (w : List ℕ) (lo hi from to top : ℕ) : Type 0 where
  pub index : Index lay q w
  pub rows : RowsKept lay q w top
  pub within : hi ≤ length q.lefts
  pub order : from ≤ to
  pub below : to ≤ lay.row_starts
  pub is : (i : ℕ) → lo ≤ i → i < hi → containing q (left_in lay w i) ≡ slice from to w

-- w became w': rows are kept, and end at r
pub record ListKept (lay : Layout) (w : List ℕ) (lo hi from to top : ℕ) (w' : List ℕ) (r : ℕ) : Type 0 where
  pub size : length w' ≡ length w
  pub frame : take lay.row_starts w' ≡ take lay.row_starts w
  pub rows : (q : Query) → ListThere lay q w lo hi from to top → RowsKept lay q w' r
