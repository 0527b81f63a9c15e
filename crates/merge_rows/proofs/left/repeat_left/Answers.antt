-- `merge_rows::left::repeat_left` meets its contract: the words of the earlier left set and of the next one tell where its pairs stand and
-- how many of its checks dropped and failed.
use Prim.Native.Nat.{◌+◌, ◌*◌}
use native.Mathlib.Omega.{arith}
use Rattle.merge_rows.proofs.RepeatLaws.{counters_after, counters_dropped, counters_falses, counters_source, counters_drops, counters_fails, counters_again}
use Rattle.merge_rows.proofs.left.repeat_left.Goals as goal

pub overflow_cast-to : goal.overflow_cast-to
overflow_cast-to c =
    omega (arith, c.type_inv.work (c.args.counters + 3 * c.args.j + 3))

pub overflow_sub-dropped : goal.overflow_sub-dropped
overflow_sub-dropped c =
    omega (arith, counters_dropped c.requires.held)

pub overflow_cast-dropped : goal.overflow_cast-dropped
overflow_cast-dropped c =
    omega (arith, counters_drops c.requires)

pub overflow_sub-falses : goal.overflow_sub-falses
overflow_sub-falses c =
    omega (arith, counters_falses c.requires.held)

pub overflow_cast-falses : goal.overflow_cast-falses
overflow_cast-falses c =
    omega (arith, counters_fails c.requires)

pub overflow_sub-to : goal.overflow_sub-to
overflow_sub-to c =
    omega (arith, counters_after c.requires.held)

pub list_copy-end-requires : goal.list_copy-end-requires
list_copy-end-requires c =
    counters_source c.requires

pub overflow_add-result : goal.overflow_add-result
overflow_add-result c =
    omega (arith, counters_drops c.requires)

pub overflow_add-result-2 : goal.overflow_add-result-2
overflow_add-result-2 c =
    omega (arith, counters_fails c.requires)

pub returns : goal.returns
returns c =
    counters_again c.list_copy-end.ensures
