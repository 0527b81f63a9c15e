-- `words::found::is_among` meets its contract: a word is among others just where it stands at the place where it goes.
use mathlib.Core.Path.{ap, ◌∙◌}
use Prim.Native.Nat.{ℕ}
use lib.Dec.{eqb}
use Rattle.words.proofs.found.Halving.{among_none, among_at}
use Rattle.words.proofs.found.is_among.Goals as goal

pub returns-then-part-at : goal.returns-then-part-at
returns-then-part-at c =
    among_none c.lower-at.ensures c.if-part-at.true

pub returns : goal.returns
returns c =
    ap (λ (y : ℕ). eqb y c.args.x) c.word_at.ensures.is
    ∙ among_at c.requires c.lower-at.ensures c.if-part-at.false
