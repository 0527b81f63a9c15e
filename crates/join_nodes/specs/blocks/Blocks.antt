-- Inner: left sets that are paired by path or checked, and their kept rows. And the left sets of a node where the walk goes on: those
-- that end there, and those at the limit.
use Rattle.std.specs.Prelude.{ℕ, ◌+◌, ◌-◌, ◌≤◌, ◌<◌, ◌≡◌, List, true, eqb, length, Option, Some, None}
use Rattle.lists.specs.Lists.{all, prefix, slice}
use Rattle.join_spec.specs.Query.{Query}
use Rattle.join_spec.specs.Walk.{goes}
use Rattle.join_index.specs.Grouping.{left_at, key_at}
use Rattle.join_index.specs.declared.Layout.{Layout}
use Rattle.join_index.specs.Asking.{Index, RangeThere}
use Rattle.join_index.specs.Ranges.{lefts_in, lead}
use Rattle.join_check.specs.Counters.{checks_in, Tallied}
use Rattle.join_check.specs.Checks.{row_count}
use Rattle.kept_rows.specs.Kept.{RowsKept}
use Rattle.kept_rows.specs.Keeping.{ListKept}
use Rattle.kept_rows.specs.checked.Recording.{RowRecordable}
use Rattle.join_nodes.specs.Narrowing.{candidate_list}
use Rattle.join_nodes.specs.Visiting.{Underway, Merged, Framed}
use Rattle.kept_rows.specs.declared.Progress.{Progress}
use Rattle.join_nodes.specs.declared.WalkSettings.{WalkSettings}
use Rattle.join_nodes.specs.declared.blocks.Settled.{Settled}

-- r is where the left sets end that come first from lo and have no rank after depth d
pub record MergedEnd (lay : Layout) (w : List ℕ) (d lo hi r : ℕ) : Type 0 where
  pub low : lo ≤ r
  pub high : r ≤ hi
  pub maximal : (q : Query) → RangeThere lay q w lo hi → r ≡ lo + lead (λ k. eqb (key_at q d k) 0) (lefts_in lay w lo hi)

-- the left sets in left_order[lo..hi] were paired by path with the right sets listed in work[from..to], which are kept as their row
pub record PairsKept (lay : Layout) (w : List ℕ) (lo hi from to : ℕ) (p : Progress) (w' : List ℕ) (r : Progress) : Type 0 where
  pub kept : ListKept lay w lo hi from to p.top w' r.top
  pub merged : Merged (hi - lo) (to - from) p.tally r.tally

-- the left set k was checked against the right sets listed in work[from..to] and its row is kept; or that would have exceeded the
-- budget
pub record RowFinished (lay : Layout) (w : List ℕ) (budget k e from to : ℕ) (p : Progress) (w' : List ℕ)
    (r : Option Progress) : Type 0 where
  pub framed : Framed lay.row_starts w w'
  pub rows : (at : Progress) → r ≡ Some at → (q : Query) → RowRecordable lay q w k e from to p.top → RowsKept lay q w' at.top
  pub tallied :
      (at : Progress) → r ≡ Some at → (q : Query) → RowRecordable lay q w k e from to p.top
      → Tallied (λ is. row_count q is (slice from to w) k) p.tally at.tally
  pub within : (at : Progress) → r ≡ Some at → checks_in at.tally ≤ budget
  pub beyond : r ≡ None → budget < checks_in p.tally + (to - from)

-- a node where the walk goes on: the left sets in left_order[lo..hi] begin with the path, and work[from..to] lists the candidates
-- after it
pub record Going (lay : Layout) (st : WalkSettings) (q : Query) (path w : List ℕ) (d lo hi from to : ℕ) (p : Progress) : Type 0 where
  pub index : Index lay q w
  pub underway : Underway st q p.tally (hi - lo)
  pub rows : RowsKept lay q w p.top
  pub depth : length path ≡ d
  pub deep : 0 < d
  pub on : goes q path ≡ true
  pub upto : lo ≤ hi
  pub few : hi ≤ length q.lefts
  pub begins : all (λ k. prefix path (left_at q k)) (lefts_in lay w lo hi) ≡ true
  pub rise : from ≤ to
  pub below : to ≤ lay.row_starts
  pub holds : slice from to w ≡ candidate_list q path d

-- and the path is as long as the limit
pub record AtLimit (lay : Layout) (st : WalkSettings) (q : Query) (path w : List ℕ) (d lo hi from to : ℕ) (p : Progress) : Type 0 where
  pub going : Going lay st q path w d lo hi from to p
  pub limit : q.limit ≡ d

-- the left sets that end with the path are paired by path and their row is kept: w became w'
pub record Settles (lay : Layout) (st : WalkSettings) (w : List ℕ) (d lo hi from to : ℕ) (p : Progress) (w' : List ℕ)
    (r : Settled) : Type 0 where
  pub end : MergedEnd lay w d lo hi r.mid
  pub merged : Merged (r.mid - lo) (to - from) p.tally r.at.tally
  pub framed : Framed lay.row_starts w w'
  pub rows : (q : Query) (path : List ℕ) → Going lay st q path w d lo hi from to p → RowsKept lay q w' r.at.top
