-- Inner: the checks of a block of left sets against a list of candidates, made only if the budget covers them all.
use Rattle.std.specs.Prelude.{ℕ, ◌+◌, ◌-◌, ◌*◌, ◌≤◌, ◌<◌, ◌≡◌, List, Bool, true, false, Option, Some, None}
use Rattle.lists.specs.Lists.{slice}
use Rattle.sets.specs.Limits.{max_sets}
use Rattle.join_spec.specs.Query.{Query}
use Rattle.join_index.specs.declared.Layout.{Layout}
use Rattle.join_index.specs.Ranges.{lefts_in}
use Rattle.join_check.specs.Counters.{checks_in, Tallied}
use Rattle.join_check.specs.Checks.{range_count, RangesThere}
use Rattle.join_check.specs.declared.Tally.{Tally}
use Rattle.kept_rows.specs.declared.Progress.{Progress}

-- whether a budget covers so many checks after those that were made
pub record Covered (budget : ℕ) (tally : Tally) (checks : ℕ) (r : Bool) : Type 0 where
  pub within : r ≡ true → checks_in tally + checks ≤ budget
  pub beyond : r ≡ false → budget < checks_in tally + checks

-- a block that is small, with a budget that covers the checks so far
pub record Small (budget lo hi from to : ℕ) (tally : Tally) : Type 0 where
  pub lefts : hi - lo ≤ max_sets
  pub rights : to - from ≤ max_sets
  pub rise : lo ≤ hi
  pub part : from ≤ to
  pub covered : checks_in tally ≤ budget

-- every left set was checked against every candidate, or that would have exceeded the budget; no row is kept
pub record Blocked (lay : Layout) (w : List ℕ) (budget e lo hi from to : ℕ) (p : Progress)
    (r : Option Progress) : Type 0 where
  pub tallied :
      (at : Progress) → r ≡ Some at → (q : Query) → RangesThere lay q w e lo hi from to
      → Tallied (λ is. range_count q is (slice from to w) (lefts_in lay w lo hi)) p.tally at.tally
  pub within : (at : Progress) → r ≡ Some at → checks_in at.tally ≤ budget
  pub beyond : r ≡ None → budget < checks_in p.tally + (hi - lo) * (to - from)
  pub top : (at : Progress) → r ≡ Some at → at.top ≡ p.top
