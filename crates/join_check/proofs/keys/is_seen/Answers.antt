-- `join_check::keys::is_seen` meets its contract: the ranks of a right set lie between two starts, the least one first.
use mathlib.Core.Path.{ap, ◌∙◌}
use Prim.Native.Nat.{ℕ, ◌+◌}
use native.Mathlib.Omega.{arith}
use lib.Dec.{leb}
use lib.ListN.{get_or}
use Rattle.join_index.proofs.Places.{right_none, right_first}
use Rattle.join_check.proofs.keys.is_seen.Goals as goal

pub returns-then-to-from : goal.returns-then-to-from
returns-then-to-from c =
    λ q there. right_none c.args.r there (omega arith)

pub returns : goal.returns
returns c =
    λ q there.
    let a = c.args in
    let least =
    c.word_at-least.ensures.is ∙ ap (λ (n : ℕ). get_or a.work.now (a.lay.right_ranks + n) 0)
    c.word_at-from.ensures.is
    in
    ap (λ (n : ℕ). leb n a.r) least ∙ right_first a.r there (omega arith)
