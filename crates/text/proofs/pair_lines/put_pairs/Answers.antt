use Prim.Native.Nat.{◌+◌, ◌*◌, ◌/◌, ◌<◌}
use mathlib.Core.Path.{◌∙◌}
use native.Mathlib.Nat.{mul-add}
use native.Mathlib.Omega.{arith}
use lib.ListN.{length}
use Rattle.text.proofs.pair_lines.PairPlaces.{place_at}
use Rattle.text.proofs.pair_lines.LineSteps.{pair_next, lines_step, lines_all}
use Rattle.text.proofs.pair_lines.put_pairs.Goals as goal

pub bounds-left_numbers-left : goal.bounds-left_numbers-left
bounds-left_numbers-left c =
    let pairs = c.args.pairs.now in
    let p = c.loop-left.left-index in
    let now = pair_next c.loop-left.invariant (omega (arith, c.loop-left-test.true, c.as_chunks.ensures.front_len)) in
    let left = place_at pairs (length pairs / 2) p 0 (2 * p) (omega (arith, c.as_chunks.ensures.front_len)) (omega arith) (omega arith) in
    omega (arith, now.left, rw c.as_chunks.ensures.front at c.from-left.ensures, left)

pub bounds-right_numbers-right : goal.bounds-right_numbers-right
bounds-right_numbers-right c =
    let pairs = c.args.pairs.now in
    let p = c.loop-left.left-index in
    let now = pair_next c.loop-left.invariant (omega (arith, c.loop-left-test.true, c.as_chunks.ensures.front_len)) in
    let right = place_at pairs (length pairs / 2) p 1 (2 * p + 1) (omega (arith, c.as_chunks.ensures.front_len)) (omega arith) (omega arith) in
    omega (arith, now.right, rw c.as_chunks.ensures.front at c.from-right.ensures, right)

pub loop-left-preserved : goal.loop-left-preserved
loop-left-preserved c =
    let pairs = c.args.pairs.now in
    let p = c.loop-left.left-index in
    let here : p < length pairs / 2 = omega (arith, c.loop-left-test.true, c.as_chunks.ensures.front_len) in
    let left = (rw c.as_chunks.ensures.front at c.from-left.ensures) ∙ place_at pairs (length pairs / 2) p 0 (2 * p) here (omega arith) (omega arith) in
    let right = (rw c.as_chunks.ensures.front at c.from-right.ensures) ∙ place_at pairs (length pairs / 2) p 1 (2 * p + 1) here (omega arith) (omega arith) in
    rw (mul-add 2 p 1)
    (lines_step c.loop-left.invariant (omega arith) (rw (left, right) at c.put_pair-n.ensures.put) c.put_pair-n.ensures.upper_bound c.put_pair-n.auto.text)

pub returns-clause-put : goal.returns-clause-put
returns-clause-put c =
    lines_all c.loop-left.invariant (omega (arith, c.loop-left-test.false, c.as_chunks.ensures.front_len))
