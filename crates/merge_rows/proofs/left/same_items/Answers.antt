use mathlib.Core.Path.{refl}
use native.Mathlib.Omega.{arith}
use borrow.Author.Count.{below_more}
use lib.Seq.{ext_get_or}
use Rattle.lists.proofs.Bools.{true-false}
use Rattle.merge_rows.proofs.left.same_items.Goals as goal

pub returns-then-a-b : goal.returns-then-a-b
returns-then-a-b c = λ never. true-false never refl

pub loop-e-init : goal.loop-e-init
loop-e-init c = (omega arith, λ k none. absurd (omega arith))

pub returns-then-a-e : goal.returns-then-a-e
returns-then-a-e c = λ never. true-false never refl

pub loop-e-preserved : goal.loop-e-preserved
loop-e-preserved c =
    let l = c.loop-e in
    (l.invariant.0, below_more _ _ l.invariant.1 (omega arith))

pub returns : goal.returns
returns c =
    let a = c.args in
    let inv = c.loop-e.invariant in
    λ same. ext_get_or 0 a.a.now a.b.now inv.0 (λ i below. inv.1 i (omega arith))
