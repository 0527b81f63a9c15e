use Prim.Native.Nat.{ℕ, ◌+◌, ◌-◌, ◌<◌}
use mathlib.Core.Path.{◌≡◌, ap, ◌∙◌}
use mathlib.Core.List.{[]}
use native.Mathlib.Omega.{arith}
use lib.Bits.{and_le_r}
use lib.Count.{count_trailing_zeros, trailing_le}
use lib.ListN.{length, get_or}
use Rattle.lists.specs.Lists.{one}
use Rattle.sets.specs.Collections.{lent_sets, sets_in}
use Rattle.sets.specs.Signatures.{signature, drops}
use Rattle.sets.proofs.Between.{length-sets}
use Rattle.merge_rows.specs.SignedSets.{drops_at}
use Rattle.merge_rows.proofs.RankCounts.{number_of}
use Rattle.merge_rows.proofs.SignedLaws.{drops_place, drops_room, drops_step, drops_end, signs_none}
use Rattle.merge_rows.proofs.signed.count_drops.Goals as goal
use Rattle.merge_rows.proofs.signed.count_drops.Goals.{After-from-dropped, In-loop-rest}

pub loop-rest-init : goal.loop-rest-init
loop-rest-init c =
    let a = c.args in
    record {
      counted = omega arith;
      places = rw (length-sets 0 a.sets.now.ends.now a.sets.now.items.now) c.requires.places;
      small = omega (arith, c.ranges.word);
      signs = signs_none c.requires.room.signed;
    }

pub overflow_cast-s : goal.overflow_cast-s
overflow_cast-s c = omega (arith, trailing_le 64 c.loop-rest.rest)

-- the right set at hand is there
place : (c : In-loop-rest)
    → c.args.base + count_trailing_zeros 64 c.loop-rest.rest < length c.args.sets.now.ends.now
place c =
    let a = c.args in
    omega (arith, drops_place c.loop-rest.invariant c.loop-rest-test.true, length-sets 0 a.sets.now.ends.now a.sets.now.items.now)

pub overflow_add-s : goal.overflow_add-s
overflow_add-s c = omega (arith, place (goal.at.overflow_add-s c).In-loop-rest)

pub signature_of-right-requires : goal.signature_of-right-requires
signature_of-right-requires c =
    record {
      room = record { T = c.requires.room.T; good = c.requires.room.good; signed = c.loop-rest.invariant.signs.signed };
      positions = c.requires.positions;
      place = place (goal.at.signature_of-right-requires c).In-loop-rest;
    }

-- whether the signature of the right set at hand drops
dropped_here : (c : After-from-dropped)
    → let a = c.args in
    c.from-dropped.result
    ≡ one (drops_at a.mark (sets_in (lent_sets a.sets.now)) (a.base + count_trailing_zeros 64 c.loop-rest.rest))
dropped_here c =
    let a = c.args in
    c.from-dropped.ensures ∙ number_of _
    ∙ ap (λ (right : ℕ). one (drops a.mark right))
    {y = signature (get_or (sets_in (lent_sets a.sets.now)) (a.base + count_trailing_zeros 64 c.loop-rest.rest) [])}
    c.signature_of-right.ensures.is

pub overflow_add-dropped : goal.overflow_add-dropped
overflow_add-dropped c =
    omega (arith, dropped_here (goal.at.overflow_add-dropped c).After-from-dropped, drops_room c.loop-rest.invariant c.loop-rest-test.true)

pub loop-rest-smaller : goal.loop-rest-smaller
loop-rest-smaller c =
    let rest = c.loop-rest.rest in omega (arith, and_le_r rest (rest - 1))

pub loop-rest-preserved : goal.loop-rest-preserved
loop-rest-preserved c =
    rw (dropped_here (goal.at.loop-rest-preserved c).After-from-dropped) (drops_step c.loop-rest.invariant c.loop-rest-test.true c.signature_of-right.ensures.signs)

pub shape_of-work : goal.shape_of-work
shape_of-work c = c.loop-rest.invariant.signs.size

pub returns : goal.returns
returns c =
    let inv = c.loop-rest.invariant in
    record {
      counted = drops_end inv (omega (arith, c.loop-rest-test.false));
      signs = inv.signs;
    }
