-- Inner: the left sets of a child.
use Rattle.std.specs.Prelude.{ℕ, ◌-◌, ◌≤◌, ◌<◌, ◌≡◌, List, length}
use Rattle.join_spec.specs.Query.{Query}
use Rattle.join_spec.specs.Node.{last_of}
use Rattle.join_index.specs.declared.Layout.{Layout}
use Rattle.join_index.specs.Asking.{Index}
use Rattle.join_index.specs.Ranges.{lefts_in}
use Rattle.kept_rows.specs.Kept.{RowsKept}
use Rattle.join_nodes.specs.Visiting.{Underway, beginners}
use Rattle.kept_rows.specs.declared.Progress.{Progress}
use Rattle.join_nodes.specs.declared.WalkSettings.{WalkSettings}

-- the left sets in left_order[lo..hi] begin with a path of d ranks: those of a child, or of a partition
pub record Child (lay : Layout) (st : WalkSettings) (q : Query) (path w : List ℕ) (d lo hi : ℕ) (p : Progress) : Type 0 where
  pub index : Index lay q w
  pub underway : Underway st q p.tally (hi - lo)
  pub rows : RowsKept lay q w p.top
  pub depth : length path ≡ d
  pub within : d ≤ q.limit
  pub last : last_of path < q.T
  pub some : lo < hi
  pub few : hi ≤ length q.lefts
  pub lefts : lefts_in lay w lo hi ≡ beginners q path d
