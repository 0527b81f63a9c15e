use Rattle.std.proofs.Common.{arith}
use Rattle.pool_scan.proofs.right_slots.Counting.{block_few, counting_start, counting_bound, counting_step}
use Rattle.pool_scan.proofs.right_slots.count_blocks.Goals as goal

pub loop-b-init : goal.loop-b-init
loop-b-init c = counting_start c.args.used.now c.args.counts.now c.requires.counts_len

pub overflow_cast-count : goal.overflow_cast-count
overflow_cast-count c =
    record { fits = omega (arith, counting_bound c.loop-b.invariant c.requires.half_words_bound) }

pub overflow_add-total : goal.overflow_add-total
overflow_add-total c =
    let bounded = counting_bound c.loop-b.invariant c.requires.half_words_bound in
    let few = block_few c.args.used.now c.loop-b.b c.block_ones-total.result c.block_ones-total.ensures in
    record { fits = omega (arith, bounded, few) }

pub loop-b-preserved : goal.loop-b-preserved
loop-b-preserved c =
    counting_step c.loop-b.invariant c.block_ones-total.result (omega (arith, c.requires.counts_len)) c.block_ones-total.ensures
