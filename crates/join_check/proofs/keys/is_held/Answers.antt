-- `join_check::keys::is_held` meets its contract: the list of a rank is empty where it ends at its beginning.
use Prim.Native.Nat.{ℕ, suc, ◌+◌, ◌≤◌}
use mathlib.Core.Path.{◌≡◌, sym, ap, ◌∙◌}
use native.Mathlib.Omega.{arith}
use borrow.Author.Tests.{ltb-false}
use lib.ListN.{get_or}
use Rattle.lists.proofs.Slices.{slice_past}
use Rattle.join_index.specs.Ground.{offset_of}
use Rattle.join_check.proofs.keys.is_held.Goals as goal

pub returns : goal.returns
returns c =
    let a = c.args in
    λ q there none.
    let held = there.index.ground.inverted a.r there.below in
    let next : a.lay.offsets + a.r + 1 ≡ a.lay.offsets + suc a.r = omega arith in
    let end : c.word_at-2.result ≡ offset_of a.lay a.work.now (suc a.r) =
    c.word_at-2.ensures.is ∙ ap (λ (i : ℕ). get_or a.work.now i 0) next in
    let short : c.word_at-2.result ≤ c.word_at.result =
    ltb-false c.word_at.result c.word_at-2.result none in
    sym held.is
    ∙ slice_past (a.lay.index + offset_of a.lay a.work.now a.r)
    (a.lay.index + offset_of a.lay a.work.now (suc a.r)) a.work.now
    (omega (arith, end, c.word_at.ensures.is, short))
