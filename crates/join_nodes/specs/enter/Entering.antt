-- Inner: a node where the walk goes on, up to the visit of its children.
use Rattle.std.specs.Prelude.{ℕ, ◌≤◌, ◌<◌, ◌≡◌, List, true, Option, Some, None}
use Rattle.join_spec.specs.Query.{Query}
use Rattle.join_spec.specs.Walk.{goes}
use Rattle.join_index.specs.declared.Layout.{Layout}
use Rattle.join_nodes.specs.Visiting.{Node, ChildrenAt, NodeVisited, ChildrenVisited}
use Rattle.kept_rows.specs.declared.Progress.{Progress}
use Rattle.join_nodes.specs.declared.WalkSettings.{WalkSettings}
use Rattle.join_nodes.specs.declared.enter.Entered.{Entered}

-- a node that is to be visited, where the walk goes on
pub record GoesOn (lay : Layout) (st : WalkSettings) (q : Query) (path w : List ℕ) (d lo hi from to : ℕ) (p : Progress) : Type 0 where
  pub node : Node lay st q path w d lo hi from to p
  pub on : true ≡ goes q path

-- it was entered, and w became w': its visit is over, or what is left of it is the visit of its children; or the budget is spent
pub record NodeEntered (lay : Layout) (st : WalkSettings) (q : Query) (path w w' : List ℕ) (d lo hi : ℕ) (p : Progress)
    (r : Option Entered) : Type 0 where
  pub over : (on : Entered) → r ≡ Some on → hi ≤ on.mid → NodeVisited lay st q path w w' d lo hi p.tally (Some on.at)
  pub spent : r ≡ None → NodeVisited lay st q path w w' d lo hi p.tally None
  pub kids : (on : Entered) → r ≡ Some on → on.mid < hi → ChildrenAt lay st q path w' d on.mid hi on.«from» on.to on.at
  pub rest :
      (on : Entered) → r ≡ Some on → on.mid < hi → (w'' : List ℕ) (one : Option Progress)
      → ChildrenVisited lay st q path w' w'' d on.mid hi on.at.tally one
      → NodeVisited lay st q path w w'' d lo hi p.tally one
