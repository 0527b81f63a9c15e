use mathlib.Core.Path.{sym, ◌∙◌}
use Prim.Native.Nat.{◌<◌}
use native.Mathlib.Omega.{arith}
use borrow.Author.Tests.{ltb-true}
use lib.Dec.{ltb}
use lib.ListN.{length, get_or}
use Rattle.lists.proofs.Throughout.{all_at}
use Rattle.validation.proofs.permutations.Fresh.{fresh_start, fresh_next, fresh_end}
use Rattle.validation.proofs.permutations.all_distinct.Goals as goal
use Rattle.validation.proofs.permutations.all_distinct.Goals.{In-loop-x}

-- the rank at hand has a mark
marked : (c : In-loop-x) → get_or c.args.ranks.now c.loop-x.x-index 0 < length c.loop-x.seen
marked c =
    let a = c.args in
    let k = c.loop-x.x-index in
    omega (
      arith,
      c.loop-x.auto.seen,
      ltb-true (get_or a.ranks.now k 0) (length a.seen.now)
          (all_at (λ x. ltb x (length a.seen.now)) 0 a.ranks.now c.requires.room k c.loop-x-test.true),
    )

pub bounds-seen-x : goal.bounds-seen-x
bounds-seen-x c = marked (goal.at.bounds-seen-x c).In-loop-x

pub bounds-seen-x-in-loop-x : goal.bounds-seen-x-in-loop-x
bounds-seen-x-in-loop-x c = marked (goal.at.bounds-seen-x-in-loop-x c).In-loop-x

pub loop-x-preserved : goal.loop-x-preserved
loop-x-preserved c =
    let l = c.loop-x in
    fresh_next l.x-index l.seen c.args.ranks.now l.again c.loop-x-test.true ∙ l.invariant

pub returns : goal.returns
returns c =
    let a = c.args in
    let l = c.loop-x in
    sym (fresh_end l.x-index l.seen a.ranks.now l.again c.loop-x-test.false) ∙ l.invariant
    ∙ fresh_start a.seen.now a.ranks.now c.requires.clear c.requires.room
