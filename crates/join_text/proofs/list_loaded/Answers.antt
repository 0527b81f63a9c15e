-- `join_text::list_loaded` meets its contract: an accepted order fills the program's rank table, and what it refuses the join would
-- refuse for the same cause.
use mathlib.Core.Path.{ap}
use Prim.Native.Nat.{ℕ}
use mathlib.Core.List.{List}
use native.Mathlib.Omega.{arith}
use Rattle.inputs.specs.Input.{lent_input}
use Rattle.join_text.specs.JoinText.{settings_under, join_text}
use Rattle.join_text.proofs.Texts.{put_fills, fills_same}
use Rattle.join_text.proofs.OrderTexts.{ordered_ranks, refused_order}
use Rattle.join_text.proofs.list_loaded.Goals as goal

pub returns-in-Ok : goal.returns-in-Ok
returns-in-Ok c =
    let a = c.args in
    fills_same
    (ap (λ (ranks : List ℕ). join_text a.repeats a.left_numbers.now a.right_numbers.now (lent_input a.input.now) (settings_under ranks))
    (ordered_ranks (lent_input a.input.now) c.order.ensures c.in-Ok.is))
    c.list_ordered.ensures

pub returns-in-Err : goal.returns-in-Err
returns-in-Err c =
    let a = c.args in
    fills_same
    (refused_order (lent_input a.input.now) c.order.ensures c.in-Err.is c.requires.ranks_len
    a.repeats a.left_numbers.now a.right_numbers.now)
    (put_fills c.put_refusal.ensures.put (omega (arith, c.put_refusal.ensures.upper_bound, c.requires.numbered.room)))
