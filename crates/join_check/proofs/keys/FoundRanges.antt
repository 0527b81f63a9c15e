-- One range of several, found by going from border to border: the first one, and then the next one or that found so far.
use Prim.Native.Nat.{ℕ, ◌≤◌}
use mathlib.Core.Path.{◌≡◌, sym, subst}
use mathlib.Core.List.{List}
use mathlib.Core.Bool.{Bool, true, false, cond}
use native.Mathlib.Omega.{arith}
use Rattle.join_index.specs.declared.Layout.{Layout}
use Rattle.join_index.specs.Ranges.{RangeEnd}
use Rattle.join_check.specs.keys.Borders.{Border, first_border, next_border, RangeFound}
use Rattle.join_check.specs.declared.keys.Span.{Span}

module _ {lay : Layout} {w : List ℕ} {d lo hi : ℕ} where
  -- no border lies before the first place
  pub border_low : {i : ℕ} → Border lay w d lo hi i → lo ≤ i
  border_low first_border = omega arith
  border_low (next_border at more end) = omega (arith, border_low at, end.more)

  pub found_start : {j : ℕ} → RangeEnd lay w d lo hi j → RangeFound lay w d lo hi (record { lo = lo; hi = j })
  found_start end = record { low = omega arith; begins = first_border; end = end }

  pub found_step : {i j : ℕ} {best r : Span} (b : Bool) → Border lay w d lo hi i → RangeEnd lay w d i hi j
      → RangeFound lay w d lo hi best → r ≡ cond b (record { lo = i; hi = j }) best → RangeFound lay w d lo hi r
  found_step true at end found is =
      subst (λ (s : Span). RangeFound lay w d lo hi s) (sym is) (record { low = border_low at; begins = at; end = end })
  found_step false at end found is = subst (λ (s : Span). RangeFound lay w d lo hi s) (sym is) found
