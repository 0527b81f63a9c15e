-- `join_check::keys::key_at` meets its contract: the ranks of a left set lie between two starts.
use mathlib.Core.Path.{ap, ◌∙◌}
use Prim.Native.Nat.{ℕ, ◌+◌}
use native.Mathlib.Omega.{arith}
use lib.ListN.{get_or}
use Rattle.join_index.proofs.Reading.{key_none, key_rank}
use Rattle.join_check.proofs.keys.key_at.Goals as goal

pub returns-then-to-from : goal.returns-then-to-from
returns-then-to-from c =
    λ q there. key_none c.args.d there (omega arith)

pub returns : goal.returns
returns c =
    λ q there.
    let a = c.args in
    let rank = c.word_at.ensures.is ∙ ap (λ (n : ℕ). get_or a.work.now (a.lay.left_ranks + n + a.d) 0)
    c.word_at-from.ensures.is in
    ap (λ (n : ℕ). n + 1) rank ∙ key_rank a.d there (omega arith)
