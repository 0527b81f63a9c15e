use Prim.Native.Nat.{◌<◌}
use mathlib.Core.Path.{sym, ◌∙◌}
use native.Mathlib.Omega.{arith}
use lib.ListN.{get_or}
use Rattle.sets.proofs.Positions.{position_bound}
use Rattle.signatures.proofs.Signing.{sign_step, sign_end}
use Rattle.signatures.proofs.sign_set.Goals as goal
use Rattle.signatures.proofs.sign_set.Goals.{After-position_of-bit}

-- the bit of the item at hand is one of 64
bit_low : (c : After-position_of-bit) → c.position_of-bit.result < 64
bit_low c =
    let a = c.args in
    omega (arith, c.position_of-bit.ensures, position_bound (get_or a.items.now c.loop-i.i 0))

pub overflow_shl-mark : goal.overflow_shl-mark
overflow_shl-mark c = bit_low (goal.at.overflow_shl-mark c).After-position_of-bit

pub loop-i-preserved : goal.loop-i-preserved
loop-i-preserved c =
    let a = c.args in
    let l = c.loop-i in
    rw c.position_of-bit.ensures (sign_step l.mark l.i a.end a.items.now (omega arith) (omega arith)) ∙ l.invariant

pub returns : goal.returns
returns c =
    let a = c.args in
    let l = c.loop-i in
    sym (sign_end a.end l.i l.mark a.items.now (omega arith)) ∙ l.invariant
