-- `signatures::double_at` meets its contract: each word fits 32 bits, so that their number fits 64.
use Prim.Native.Nat.{◌+◌}
use native.Mathlib.Omega.{arith}
use Rattle.signatures.proofs.double_at.Goals as goal

pub overflow_cast-low : goal.overflow_cast-low
overflow_cast-low c = omega (arith, c.type_inv.work c.args.at)

pub overflow_cast-high : goal.overflow_cast-high
overflow_cast-high c = omega (arith, c.type_inv.work (c.args.at + 1))

pub overflow_mul-result : goal.overflow_mul-result
overflow_mul-result c = omega (arith, c.type_inv.work (c.args.at + 1))

pub overflow_add-result : goal.overflow_add-result
overflow_add-result c =
    let at = c.args.at in omega (arith, c.type_inv.work at, c.type_inv.work (at + 1))
