-- Inner: a left set that is alone at its node and can be paired at once.
use Rattle.std.specs.Prelude.{ℕ, ◌+◌, ◌-◌, ◌≤◌, ◌≡◌, List, length}
use Rattle.join_spec.specs.Query.{Query}
use Rattle.join_spec.specs.declared.Rule.TheVariants.{Merge}
use Rattle.join_index.specs.Grouping.{left_at}
use Rattle.join_index.specs.declared.Layout.{Layout}
use Rattle.join_index.specs.Asking.{RangeThere}
use Rattle.join_index.specs.Ranges.{left_in}
use Rattle.join_nodes.specs.declared.WalkSettings.{WalkSettings}

-- one left set under the rule Merge that ends within the limit, and room for a row as long as the part
pub record Lone (lay : Layout) (st : WalkSettings) (w : List ℕ) (lo hi from to top : ℕ) : Type 0 where
  pub one : hi ≡ lo + 1
  pub merge : st.rule ≡ Merge
  pub short : (q : Query) → RangeThere lay q w lo hi → length (left_at q (left_in lay w lo)) ≤ st.limit
  pub room : top + (to - from) ≤ lay.end
