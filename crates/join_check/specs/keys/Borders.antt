-- Inner: where the ranges of left sets with the same key begin and end, and one of these ranges.
use Rattle.std.specs.Prelude.{ℕ, ◌≤◌, ◌<◌, List}
use Rattle.join_index.specs.declared.Layout.{Layout}
use Rattle.join_index.specs.Ranges.{RangeEnd}
use Rattle.join_check.specs.declared.keys.Span.{Span}

-- the borders of the ranges with the same key at depth d, among the left sets at the places lo up to hi: the first place, and where the
-- range ends that begins at a border
pub data Border (lay : Layout) (w : List ℕ) (d lo hi : ℕ) : ℕ → Type 0 where
  first_border : Border lay w d lo hi lo
  next_border : {i j : ℕ} → Border lay w d lo hi i → i < hi → RangeEnd lay w d i hi j → Border lay w d lo hi j

-- one of these ranges
pub record RangeFound (lay : Layout) (w : List ℕ) (d lo hi : ℕ) (r : Span) : Type 0 where
  pub low : lo ≤ r.lo
  pub begins : Border lay w d lo hi r.lo
  pub end : RangeEnd lay w d r.lo hi r.hi
