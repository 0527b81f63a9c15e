-- Inner: sizes whose sums do not wrap.
use Rattle.std.specs.Prelude.{◌≤◌, length}
use Rattle.sets.specs.Limits.{max_items, max_sets, max_entries}
use Rattle.sets.specs.Collections.{entries}
use Rattle.inputs.specs.Input.{Input}

-- the sizes of collections without a bad set, and of T within its limit
pub record Sized (i : Input) : Type 0 where
  pub items : i.T ≤ max_items
  pub lefts : length i.left.ends ≤ max_sets
  pub rights : length i.right.ends ≤ max_sets
  pub left_entries : entries i.left.ends ≤ max_entries
  pub right_entries : entries i.right.ends ≤ max_entries
