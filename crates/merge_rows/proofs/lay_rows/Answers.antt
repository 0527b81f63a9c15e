-- `merge_rows::lay_rows` meets its contract: with so few items and sets no sum wraps.
use Prim.Native.Nat.{◌+◌, ◌*◌, ◌/◌, ◌≤◌}
use native.Mathlib.Omega.{arith}
use Rattle.merge_rows.proofs.FillSteps.{row_small}
use Rattle.merge_rows.proofs.lay_rows.Goals as goal
use Rattle.merge_rows.proofs.lay_rows.Goals.{Start}

-- the words of 64 bits
small : (c : Start) → c.args.t * ((c.args.rights + 63) / 64 + 1) ≤ 266240
small c = row_small c.args.t ((c.args.rights + 63) / 64 + 1) c.requires.items (omega (arith, c.requires.right))

pub overflow_mul-counters : goal.overflow_mul-counters
overflow_mul-counters c = omega (arith, small (goal.at.overflow_mul-counters c).Start)

pub overflow_mul-counters-2 : goal.overflow_mul-counters-2
overflow_mul-counters-2 c = omega (arith, small (goal.at.overflow_mul-counters-2 c).Start)

pub overflow_add-signatures : goal.overflow_add-signatures
overflow_add-signatures c = omega (arith, small (goal.at.overflow_add-signatures c).Start)

pub overflow_add-hints : goal.overflow_add-hints
overflow_add-hints c = omega (arith, small (goal.at.overflow_add-hints c).Start)
