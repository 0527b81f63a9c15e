-- `merge_rows::signed::start_of` meets its contract: a set begins where the one before it ends, the first at 0.
use Prim.Native.Nat.{ℕ, suc, ◌-◌}
use mathlib.Core.Path.{◌≡◌, ap}
use mathlib.Core.List.{◌∷◌}
use native.Mathlib.Omega.{arith}
use lib.ListN.{get_or}
use Rattle.merge_rows.proofs.signed.start_of.Goals as goal

pub overflow_cast-result : goal.overflow_cast-result
overflow_cast-result c = omega (arith, c.type_inv.ends (c.args.s - 1))

pub returns : goal.returns
returns c =
    let a = c.args in
    let next : suc (a.s - 1) ≡ a.s = omega arith in
    ap (λ (s : ℕ). get_or (0 ∷ a.ends.now) s 0) next
