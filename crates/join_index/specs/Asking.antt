-- Inner: what the functions that read the index ask: that the work list holds the index of some query. Their answer is said of every
-- query whose index it holds.
use Rattle.std.specs.Prelude.{ℕ, ◌≤◌, ◌<◌, ◌≡◌, List, true, ltb, length}
use Rattle.lists.specs.Lists.{all, slice}
use Rattle.join_spec.specs.Query.{Query}
use Rattle.join_index.specs.Ground.{Ground}
use Rattle.join_index.specs.declared.Layout.{Layout}

-- there is a query of which it holds
pub record SomeQuery (P : Query → Type 0) : Type 0 where
  pub query : Query
  pub holds : P query

-- the work list holds the index of the query, and all its regions
pub record Index (lay : Layout) (q : Query) (w : List ℕ) : Type 0 where
  pub ground : Ground lay q w
  pub room : lay.slots ≤ length w

-- the left set k is there
pub record LeftThere (lay : Layout) (q : Query) (w : List ℕ) (k : ℕ) : Type 0 where
  pub index : Index lay q w
  pub below : k < length q.lefts

-- left_order[i..hi] is there, and not empty
pub record RangeThere (lay : Layout) (q : Query) (w : List ℕ) (i hi : ℕ) : Type 0 where
  pub index : Index lay q w
  pub some : i < hi
  pub within : hi ≤ length q.lefts

-- the right set s is there
pub record RightThere (lay : Layout) (q : Query) (w : List ℕ) (s : ℕ) : Type 0 where
  pub index : Index lay q w
  pub below : s < length q.rights

-- a rank whose inverted list is there
pub record RankThere (lay : Layout) (q : Query) (w : List ℕ) (r : ℕ) : Type 0 where
  pub index : Index lay q w
  pub below : r < q.T

-- work[from..to] lists places of right sets
pub record PlacesThere (lay : Layout) (q : Query) (w : List ℕ) (from to : ℕ) : Type 0 where
  pub index : Index lay q w
  pub within : to ≤ length w
  pub below : all (λ s. ltb s (length q.rights)) (slice from to w) ≡ true
