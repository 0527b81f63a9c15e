-- No row is kept: what zeros in the first words of the rows leave.
use Prim.Native.Nat.{ℕ, ◌+◌, ◌-◌, ◌≤◌, ◌<◌}
use mathlib.Core.Path.{◌≡◌, sym, ap, ◌∙◌}
use mathlib.Core.List.{List, ◌++◌}
use native.Mathlib.Omega.{arith}
use lib.ListN.{length, get_or, take, replicate, get_or-append, get_or-replicate, length-replicate}
use lib.Seq.{length-take-le, get_or-append_right}
use borrow.Rule.Slice.PartMut.{mid_of, post_of, put_mid, mid_len, same_len_mid, take_put}
use Rattle.join_index.specs.declared.Layout.{Layout}
use Rattle.join_index.specs.Asking.{SomeQuery}
use Rattle.kept_rows.specs.Keeping.{ClearThere, Cleared}
use Rattle.kept_rows.proofs.RowLaws.{index_kept, rows_none}

-- there is a word for each left set
pub clearing_room : {lay : Layout} {lefts : ℕ} {w : List ℕ} → SomeQuery (λ q. ClearThere lay q w lefts) → lay.row_starts + lefts ≤ length w
clearing_room some =
    let there = some.holds in
    let g = there.index.ground in
    omega (arith, there.left_count, g.row_starts_within, g.row_ends_within, g.rows_within, g.end_within)

-- a number of a part that was put into a list
put_mid_at : (d : ℕ) (a k j : ℕ) (w part : List ℕ) → a ≤ length w → j < length part → get_or (put_mid a k w part) (a + j) d ≡ get_or part j d
put_mid_at d a k j w part within low =
    let there : a + j - a ≡ j = omega arith in
    let long = length-take-le a w within in
    get_or-append_right (take a w) (part ++ post_of a k w) (a + j) d (omega (arith, long))
    ∙ ap (λ (i : ℕ). get_or (part ++ post_of a k w) i d) (omega (arith, long))
    ∙ get_or-append part (post_of a k w) d j low

pub clearing_end : {lay : Layout} {lefts : ℕ} {w zeros : List ℕ} → let m = lay.row_starts + lefts - lay.row_starts in
    SomeQuery (λ q. ClearThere lay q w lefts) → zeros ≡ replicate (length (mid_of lay.row_starts m w)) 0
    → Cleared lay w lefts (put_mid lay.row_starts m w zeros)
clearing_end {lay} {lefts} {w} {zeros} some zeroed =
    let starts = lay.row_starts in
    let m = lay.row_starts + lefts - lay.row_starts in
    let room = clearing_room some in
    let within : lay.row_starts ≤ length w = omega (arith, room) in
    let part : length (mid_of starts m w) ≡ lefts = mid_len starts (starts + lefts) w room ∙ omega arith in
    let filled : zeros ≡ replicate lefts 0 = zeroed ∙ ap (λ (n : ℕ). replicate n 0) part in
    let long : length zeros ≡ lefts = ap length filled ∙ length-replicate lefts 0 in
    let size = same_len_mid starts m w zeros (long ∙ sym part) in
    let frame = take_put starts m w zeros within in
    record {
      size = size;
      frame = frame;
      rows = λ q there.
          rows_none (index_kept frame size there.index).ground
          (λ j below.
          put_mid_at 0 starts m j w zeros within (omega (arith, below, long, there.left_count))
          ∙ ap (λ (l : List ℕ). get_or l j 0) filled ∙ get_or-replicate lefts j 0 0 (omega (arith, below, there.left_count)));
    }
