-- Inner: one partition of the walk, the left sets with the same first rank: what is known before its visit, and what the visit of one
-- or of several in a row answers.
use Rattle.std.specs.Prelude.{ℕ, List, [], ◌∷◌, Option}
use Rattle.join_spec.specs.Query.{Query}
use Rattle.join_index.specs.declared.Layout.{Layout}
use Rattle.join_check.specs.declared.Tally.{Tally}
use Rattle.join_nodes.specs.Visiting.{RangeVisited}
use Rattle.kept_rows.specs.declared.Progress.{Progress}
use Rattle.join_nodes.specs.declared.WalkSettings.{WalkSettings}
use Rattle.join_walk.specs.visit.Child.{Child}

-- one partition: left_order[lo..hi] has the left sets with first rank r
abbrev pub Partition : Layout → WalkSettings → Query → List ℕ → ℕ → ℕ → Progress → ℕ → Type 0
Partition lay st q w lo hi p r = Child lay st q (r ∷ []) w 1 lo hi p

-- there are a query and a rank of which it holds
pub record SomeRank (P : Query → ℕ → Type 0) : Type 0 where
  pub query : Query
  pub rank : ℕ
  pub holds : P query rank

-- partitions were visited: only slots changed
abbrev pub PartVisited : Layout → WalkSettings → Query → List ℕ → List ℕ → ℕ → ℕ → Tally → Option Progress → Type 0
PartVisited lay st q w w' lo hi tally r = RangeVisited lay q st.budget lay.slots 1 w w' lo hi tally r
