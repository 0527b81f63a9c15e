-- `pool_scan::right_slots::block_ones` meets its contract: a block's members are those of its two words.
use Rattle.std.proofs.Common.{arith}
use Rattle.bit_sets.proofs.Counted.{ones_bound}
use Rattle.pool_scan.proofs.right_slots.Counting.{block_words}
use Rattle.pool_scan.proofs.right_slots.block_ones.Goals as goal

pub overflow_add-result : goal.overflow_add-result
overflow_add-result c =
    let first = ones_bound _ 64 c.ones_of-first.ensures in
    let second = ones_bound _ 64 c.ones_of-second.ensures in
    record { fits = omega (arith, first, second) }

pub returns : goal.returns
returns c =
    let a = c.args in
    let first = c.ones_of-first in
    block_words a.used.now a.b first.result c.ones_of-second.result first.ensures c.ones_of-second.ensures
