-- Inner: the whole walk: left sets by first rank, each partition with the right sets seen at it. What is known before it, and what it
-- answers.
use Rattle.std.specs.Prelude.{ℕ, ◌≤◌, ◌<◌, ◌≡◌, List, [], length, Option, Some, None}
use Rattle.sets.specs.Limits.{max_limit}
use Rattle.join_spec.specs.Query.{Query}
use Rattle.join_spec.specs.Counting.{total, is_check}
use Rattle.join_spec.specs.Kinds.{Kind, is_of}
use Rattle.join_index.specs.declared.Layout.{Layout}
use Rattle.join_index.specs.Asking.{Index}
use Rattle.join_check.specs.Counters.{counter}
use Rattle.kept_rows.specs.Kept.{RowsKept}
use Rattle.join_nodes.specs.Visiting.{Children, Framed}
use Rattle.kept_rows.specs.declared.Progress.{Progress}
use Rattle.join_nodes.specs.declared.WalkSettings.{WalkSettings}

-- partitions: the children of the path without ranks
abbrev pub Partitions : Layout → WalkSettings → Query → List ℕ → ℕ → ℕ → Progress → Type 0
Partitions lay st q w lo hi p = Children lay st q [] w 0 lo hi p

-- the walk can begin
pub record WalkReady (lay : Layout) (st : WalkSettings) (q : Query) (w : List ℕ) (lefts : ℕ) : Type 0 where
  pub index : Index lay q w
  pub limit : st.limit ≡ q.limit
  pub shallow : q.limit ≤ max_limit
  pub rule : st.rule ≡ q.rule
  pub some : 0 < q.limit
  pub left_count : length q.lefts ≡ lefts

-- the counter of each kind is the query's count, within the budget; or the checks of the whole walk exceed it
pub record QueryCounted (q : Query) (budget : ℕ) (r : Option Progress) : Type 0 where
  pub counts : (at : Progress) → r ≡ Some at → (kind : Kind) → counter kind at.tally ≡ total (is_of kind) q
  pub within : (at : Progress) → r ≡ Some at → total is_check q ≤ budget
  pub beyond : r ≡ None → budget < total is_check q

-- the walk was made
pub record WalkDone (lay : Layout) (q : Query) (budget : ℕ) (w w' : List ℕ) (r : Option Progress) : Type 0 where
  pub framed : Framed lay.slots w w'
  pub counted : QueryCounted q budget r
  pub rows : (at : Progress) → r ≡ Some at → RowsKept lay q w' at.top
