-- Inner: left sets in the order of their keys at a depth, split where a range with the same key begins; and one of these ranges.
use Rattle.std.specs.Prelude.{ℕ, ◌+◌, ◌-◌, ◌≤◌, ◌<◌, ◌≡◌, List}
use Rattle.join_spec.specs.Query.{Query}
use Rattle.counting_sort.specs.Groups.{groups_from}
use Rattle.join_index.specs.Grouping.{key_at}
use Rattle.join_index.specs.declared.Layout.{Layout}
use Rattle.join_index.specs.Asking.{RangeThere}
use Rattle.join_index.specs.Ranges.{lefts_in, RangeEnd}
use Rattle.join_check.specs.declared.keys.Span.{Span}

-- the groups of n keys from x on, in left_order[lo..hi], are split at i: those with lesser keys are before it
pub record PartedAt (lay : Layout) (q : Query) (w : List ℕ) (d x n : ℕ) (rest : List ℕ) (lo i hi : ℕ) : Type 0 where
  pub key : ℕ
  pub low : x ≤ key
  pub high : key ≤ x + n
  pub front : lefts_in lay w lo i ≡ groups_from (key_at q d) x (key - x) rest
  pub back : lefts_in lay w i hi ≡ groups_from (key_at q d) key (x + n - key) rest

-- a range begins at i, or all left sets have ended: they are split there, whichever groups they are
pub record RangeBegins (lay : Layout) (w : List ℕ) (d lo hi i : ℕ) : Type 0 where
  pub low : lo ≤ i
  pub high : i ≤ hi
  pub parted :
      (q : Query) → RangeThere lay q w lo hi → (x n : ℕ) (rest : List ℕ) → lefts_in lay w lo hi ≡ groups_from (key_at q d) x n rest
      → PartedAt lay q w d x n rest lo i hi

-- one of the ranges, or none
pub record RangeChosen (lay : Layout) (w : List ℕ) (d lo hi : ℕ) (r : Span) : Type 0 where
  pub begins : RangeBegins lay w d lo hi r.lo
  pub rise : r.lo ≤ r.hi
  pub within : r.hi ≤ hi
  pub end : r.lo < r.hi → RangeEnd lay w d r.lo hi r.hi
