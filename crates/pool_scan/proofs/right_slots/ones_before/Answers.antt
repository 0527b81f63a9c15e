-- `pool_scan::right_slots::ones_before` meets its contract: the product takes the first word or nothing.
use Rattle.std.proofs.Common.{arith}
use Rattle.bit_sets.proofs.Counted.{ones_bound}
use Rattle.pool_scan.proofs.right_slots.Counted.{product_fits, block_before}
use Rattle.pool_scan.proofs.right_slots.ones_before.Goals as goal

pub overflow_mul-result : goal.overflow_mul-result
overflow_mul-result c =
    record { fits = product_fits (ones_bound _ 64 c.ones_of-first.ensures) (omega arith) }

pub returns : goal.returns
returns c =
    let a = c.args in
    block_before a.used.now a.w c.ones_of-first.result c.ones_of-first.ensures
