-- `tag_loader::lent_lists::has_room` meets its contract.
use mathlib.Core.Path.{◌≡◌, sym, ◌∙◌}
use mathlib.Core.Bool.{Bool, true, false, not, ◌&&◌}
use Prim.Native.Nat.{◌*◌}
use borrow.Author.Tests.{le-leb, lt-leb, not-true, not-false}
use Rattle.tag_file.specs.Format.{tag_length}
use Rattle.tag_loader.proofs.lent_lists.has_room.Goals as goal

pub returns-then-room-total : goal.returns-then-room-total
returns-then-room-total c =
    let a = c.args in
    rw (lt-leb (tag_length * a.total.tag_count) a.room.tags c.if-room-total.true)

-- the left lists are too short, or the right ones decide
left_short : {a left b : Bool} (right : Bool) → a ≡ true → b ≡ left → not b ≡ true → false ≡ (a && (left && right))
left_short {a} {left} {b} right e is short = rw (e, sym is ∙ not-true b short)

left_fits : {a left b right r : Bool} → a ≡ true → b ≡ left → not b ≡ false → r ≡ right → r ≡ (a && (left && right))
left_fits {a} {left} {b} e is fits same = rw (e, sym is ∙ not-false b fits) same

pub returns-then-not-left : goal.returns-then-not-left
returns-then-not-left c =
    let a = c.args in
    left_short _ (le-leb (tag_length * a.total.tag_count) a.room.tags c.if-room-total.false)
    c.side_fits-left.ensures c.if-not-left.true-raw

pub returns : goal.returns
returns c =
    let a = c.args in
    left_fits (le-leb (tag_length * a.total.tag_count) a.room.tags c.if-room-total.false)
    c.side_fits-left.ensures c.if-not-left.false-raw c.side_fits.ensures
