-- Inner: what an accepted input gives the build.
use Rattle.std.specs.Prelude.{ℕ, ◌≤◌, ◌≡◌, List, true, length, None}
use Rattle.sets.specs.Limits.{max_items}
use Rattle.sets.specs.Collections.{first_bad_in}
use Rattle.sets.specs.Ordered.{is_permutation}
use Rattle.inputs.specs.Input.{Input}
use Rattle.inputs.specs.Tests.{words_for}

-- collections without a bad set, a rank table and a work list that is long enough
pub record BuildRoom (i : Input) (ranks w : List ℕ) : Type 0 where
  pub items : i.T ≤ max_items
  pub permutation : is_permutation i.T ranks ≡ true
  pub left_good : first_bad_in i.T i.left ≡ None
  pub right_good : first_bad_in i.T i.right ≡ None
  pub room : words_for i.T i.left.ends i.right.ends ≤ length w
