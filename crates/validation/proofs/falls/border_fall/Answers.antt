-- `validation::falls::border_fall` meets its contract: an empty part, a border at the end of the list, and else the two numbers beside
-- it.
use Prim.Native.Nat.{◌-◌}
use mathlib.Core.Path.{◌∙◌}
use native.Mathlib.Omega.{arith}
use borrow.Author.Tests.{lt-ltb, le-ltb}
use lib.Dec.{leb}
use lib.ListN.{get_or}
use Rattle.validation.proofs.falls.Passes.{number_one}
use Rattle.validation.specs.falls.Falls.{border_fall}
use Rattle.validation.proofs.falls.border_fall.Goals as goal

pub returns-then-end-start : goal.returns-then-end-start
unfolding border_fall
returns-then-end-start c = rw (le-ltb c.args.start c.args.end c.if-end-start.true)

pub returns-then-n-end : goal.returns-then-n-end
unfolding border_fall
returns-then-n-end c =
    let a = c.args in
    rw (lt-ltb a.start a.end (omega arith), le-ltb a.end a.n (omega arith))

pub returns : goal.returns
unfolding border_fall
returns c =
    let a = c.args in
    rw (lt-ltb a.start a.end (omega arith), lt-ltb a.end a.n (omega arith)) (c.from.ensures ∙ number_one (leb (get_or a.list.now a.end 0) (get_or a.list.now (a.end - 1) 0)))
