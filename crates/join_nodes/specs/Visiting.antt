-- Inner: what is known at a node when it is visited, and what a visit answers: the counters with the rows of its left sets added, and
-- the kept rows; or that the checks would exceed the budget.
use Rattle.std.specs.Prelude.{ℕ, suc, ◌+◌, ◌-◌, ◌*◌, ◌≤◌, ◌<◌, ◌≡◌, List, true, length, take, Option, Some, None}
use Rattle.lists.specs.Lists.{keep, prefix, sum, slice}
use Rattle.sets.specs.Limits.{max_limit, max_pairs}
use Rattle.join_spec.specs.Query.{Query}
use Rattle.join_spec.specs.Node.{last_of}
use Rattle.join_spec.specs.Counting.{is_check}
use Rattle.counting_sort.specs.Groups.{groups_from}
use Rattle.join_index.specs.Grouping.{left_at, key_at, order_from}
use Rattle.join_index.specs.declared.Layout.{Layout}
use Rattle.join_index.specs.Asking.{Index}
use Rattle.join_index.specs.Ranges.{lefts_in, left_in}
use Rattle.join_check.specs.Counters.{checks_in, pairs_in, Tallied}
use Rattle.join_check.specs.declared.Tally.{Tally}
use Rattle.kept_rows.specs.Kept.{RowsKept}
use Rattle.join_nodes.specs.Rows.{row, path_pairs}
use Rattle.join_nodes.specs.Narrowing.{Candidates, candidate_list, slot_of}
use Rattle.kept_rows.specs.declared.Progress.{Progress}
use Rattle.join_nodes.specs.declared.WalkSettings.{WalkSettings}

-- the settings are the query's, the checks so far are within the budget, and there is room to count n more left sets
pub record Underway (st : WalkSettings) (q : Query) (tally : Tally) (n : ℕ) : Type 0 where
  pub limit : st.limit ≡ q.limit
  pub shallow : q.limit ≤ max_limit
  pub rule : st.rule ≡ q.rule
  pub budget : checks_in tally ≤ st.budget
  pub bounded : pairs_in tally + n * length q.rights ≤ max_pairs

-- the left sets that begin with a path, ordered by their further ranks
abbrev pub beginners : Query → List ℕ → ℕ → List ℕ
beginners q path d = keep (λ k. prefix path (left_at q k)) (order_from q (q.limit - d) d)

-- the left set at left_order[lo] begins with the path, which has a rank at place i
pub record OnPath (lay : Layout) (q : Query) (path w : List ℕ) (lo i : ℕ) : Type 0 where
  pub index : Index lay q w
  pub few : lo < length q.lefts
  pub begins : prefix path (left_at q (left_in lay w lo)) ≡ true
  pub deep : i < length path

-- a node: its path, its left sets in left_order[lo..hi], and its candidates
pub record NodeAt (lay : Layout) (q : Query) (path w : List ℕ) (d lo hi from to : ℕ) : Type 0 where
  pub candidates : Candidates lay q path w d from to
  pub within : d ≤ q.limit
  pub some : lo < hi
  pub few : hi ≤ length q.lefts
  pub lefts : lefts_in lay w lo hi ≡ beginners q path d

-- a node that is to be visited
pub record Node (lay : Layout) (st : WalkSettings) (q : Query) (path w : List ℕ) (d lo hi from to : ℕ) (p : Progress) : Type 0 where
  pub at : NodeAt lay q path w d lo hi from to
  pub underway : Underway st q p.tally (hi - lo)
  pub rows : RowsKept lay q w p.top

-- left_order[lo..hi] has the left sets that go on after a path of d ranks with one of some keys in a row, ordered by their next rank.
-- The partitions are the children of the path without ranks
pub record Children (lay : Layout) (st : WalkSettings) (q : Query) (path w : List ℕ) (d lo hi : ℕ) (p : Progress) : Type 0 where
  pub index : Index lay q w
  pub underway : Underway st q p.tally (hi - lo)
  pub rows : RowsKept lay q w p.top
  pub depth : length path ≡ d
  pub within : d < q.limit
  pub upto : lo ≤ hi
  pub few : hi ≤ length q.lefts
  pub least : ℕ
  pub span : ℕ
  pub keys : least + span ≤ suc q.T
  pub further : 0 < least
  pub lefts : lefts_in lay w lo hi ≡ groups_from (key_at q d) least span (beginners q path (suc d))

-- work[from..to] lists the candidates after a path of d ranks, below the slots of all ranks beyond its last
pub record After (lay : Layout) (q : Query) (path w : List ℕ) (d from to : ℕ) : Type 0 where
  pub deep : 0 < d
  pub last : last_of path < q.T
  pub rise : from ≤ to
  pub below : to ≤ slot_of lay w (suc (last_of path))
  pub holds : slice from to w ≡ candidate_list q path d

-- the children of a node that are to be visited
pub record ChildrenAt (lay : Layout) (st : WalkSettings) (q : Query) (path w : List ℕ) (d lo hi from to : ℕ)
    (p : Progress) : Type 0 where
  pub kids : Children lay st q path w d lo hi p
  pub after : After lay q path w d from to

-- the counters became r: the rows of the left sets were added, with the walk at depth d
pub record Added (q : Query) (d : ℕ) (lefts : List ℕ) (tally r : Tally) : Type 0 where
  pub tallied : Tallied (λ is. sum (row is q d) lefts) tally r

-- the counters became r: the pairs of m left sets that end at a node with the c candidates after it were added
pub record Merged (m c : ℕ) (tally r : Tally) : Type 0 where
  pub tallied : Tallied (path_pairs m c) tally r

-- the answer of a visit of these left sets: all their rows were added within the budget, or their checks exceed it
pub record Visited (q : Query) (budget d : ℕ) (lefts : List ℕ) (tally : Tally) (r : Option Progress) : Type 0 where
  pub added : (at : Progress) → r ≡ Some at → Added q d lefts tally at.tally
  pub within : (at : Progress) → r ≡ Some at → checks_in at.tally ≤ budget
  pub beyond : r ≡ None → budget < checks_in tally + sum (row is_check q d) lefts

-- w became w': only words from a slot on may differ
pub record Framed (slot : ℕ) (w w' : List ℕ) : Type 0 where
  pub size : length w' ≡ length w
  pub frame : take slot w' ≡ take slot w

-- the left sets in left_order[lo..hi] were visited at depth d: only words from a slot on changed, their rows were added, and the kept
-- rows end at the new top
pub record RangeVisited (lay : Layout) (q : Query) (budget slot d : ℕ) (w w' : List ℕ) (lo hi : ℕ) (tally : Tally)
    (r : Option Progress) : Type 0 where
  pub framed : Framed slot w w'
  pub visited : Visited q budget d (lefts_in lay w lo hi) tally r
  pub rows : (at : Progress) → r ≡ Some at → RowsKept lay q w' at.top

-- a node was visited: only slots of its last rank and beyond changed
abbrev pub NodeVisited : Layout → WalkSettings → Query → List ℕ → List ℕ → List ℕ → ℕ → ℕ → ℕ → Tally → Option Progress
    → Type 0
NodeVisited lay st q path w w' d lo hi tally r = RangeVisited lay q st.budget (slot_of lay w (last_of path)) d w w' lo hi tally r

-- the children of a node were visited: only slots beyond its last rank changed
abbrev pub ChildrenVisited : Layout → WalkSettings → Query → List ℕ → List ℕ → List ℕ → ℕ → ℕ → ℕ → Tally → Option Progress
    → Type 0
ChildrenVisited lay st q path w w' d lo hi tally r =
    RangeVisited lay q st.budget (slot_of lay w (suc (last_of path))) (suc d) w w' lo hi tally r
