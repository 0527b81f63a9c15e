-- Inner: checks of left sets against right sets, and the counters that they raise. Document 01, "The run": if the walk doesn't go on
-- at a node, all kits below it are checked against each of the candidate stacks.
use Rattle.std.specs.Prelude.{ℕ, ◌+◌, ◌-◌, ◌*◌, ◌≤◌, ◌≡◌, List, [], Bool, true, length, get_or}
use Rattle.lists.specs.Lists.{all, count, sum, slice}
use Rattle.join_spec.specs.Query.{Query}
use Rattle.join_spec.specs.Walk.{Outcome, is_candidate, check}
use Rattle.join_index.specs.Grouping.{left_at, right_at}
use Rattle.join_index.specs.declared.Layout.{Layout}
use Rattle.join_check.specs.declared.Tally.{Tally}
use Rattle.join_index.specs.Asking.{LeftThere, PlacesThere}
use Rattle.join_check.specs.Counters.{checks_in, Tallied}
use Rattle.join_index.specs.Ranges.{lefts_in}

-- the check of the left set k and the right set s
abbrev pub check_at : Query → ℕ → ℕ → Outcome
check_at q k s = check (get_or q.lefts k []) (get_or q.rights s [])

-- how many checks of the left set k against the places end so
abbrev pub row_count : Query → (Outcome → Bool) → List ℕ → ℕ → ℕ
row_count q is places k = count (λ s. is (check_at q k s)) places

-- how many checks of the left sets against the places end so
abbrev pub range_count : Query → (Outcome → Bool) → List ℕ → List ℕ → ℕ
range_count q is places lefts = sum (row_count q is places) lefts

-- whether each of the right sets is a candidate of the left set k after its first e ranks
abbrev pub are_candidates : Query → ℕ → List ℕ → ℕ → Bool
are_candidates q e places k = all (λ s. is_candidate e (left_at q k) (right_at q s)) places

-- the left set k can be checked after e ranks against the right sets listed in work[from..to]
pub record RowThere (lay : Layout) (q : Query) (w : List ℕ) (k e from to : ℕ) : Type 0 where
  pub left : LeftThere lay q w k
  pub places : PlacesThere lay q w from to
  pub candidates : are_candidates q e (slice from to w) k ≡ true

-- the left sets in left_order[lo..hi] can be checked so
pub record RangesThere (lay : Layout) (q : Query) (w : List ℕ) (e lo hi from to : ℕ) : Type 0 where
  pub places : PlacesThere lay q w from to
  pub within : hi ≤ length q.lefts
  pub candidates : all (are_candidates q e (slice from to w)) (lefts_in lay w lo hi) ≡ true

-- one left set was checked against each of the places
pub record RowChecked (lay : Layout) (w : List ℕ) (k e from to : ℕ) (tally r : Tally) : Type 0 where
  pub grown : checks_in r ≡ checks_in tally + (to - from)
  pub tallied : (q : Query) → RowThere lay q w k e from to → Tallied (λ is. row_count q is (slice from to w) k) tally r

-- each left set of a range was checked against each of the places
pub record RangesChecked (lay : Layout) (w : List ℕ) (e lo hi from to : ℕ) (tally r : Tally) : Type 0 where
  pub grown : checks_in r ≡ checks_in tally + (hi - lo) * (to - from)
  pub tallied :
      (q : Query) → RangesThere lay q w e lo hi from to
      → Tallied (λ is. range_count q is (slice from to w) (lefts_in lay w lo hi)) tally r
