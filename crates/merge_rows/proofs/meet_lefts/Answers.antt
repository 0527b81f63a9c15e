use mathlib.Core.List.{[]}
use native.Mathlib.Omega.{arith}
use lib.ListN.{get_or}
use Rattle.sets.specs.Collections.{lent_sets, sets_in}
use Rattle.side_index.proofs.inverted.Collected.{SetAt}
use Rattle.merge_rows.proofs.AllLefts.{lefts_start, lefts_end, this_set, counters_room, set_there, lefts_fit}
use Rattle.merge_rows.proofs.AllLefts.{lefts_spent, lefts_step}
use Rattle.merge_rows.proofs.meet_lefts.Goals as goal
use Rattle.merge_rows.proofs.meet_lefts.Goals.{In-loop-k}

-- the left set at hand
set_here : (c : In-loop-k)
    → let a = c.args in
    let l = c.loop-k in
    let left = lent_sets a.input.now.left in
    SetAt a.input.now.t l.k l.start (get_or left.ends l.k 0) (get_or (sets_in left) l.k []) left.items
set_here c = this_set c.loop-k.invariant c.loop-k-test.true

pub loop-k-init : goal.loop-k-init
loop-k-init c =
    lefts_start c.args.pairs.now c.requires.there

pub store_counters-requires : goal.store_counters-requires
store_counters-requires c =
    counters_room c.loop-k.invariant c.loop-k-test.true

pub offset_bounds-items-start : goal.offset_bounds-items-start
offset_bounds-items-start c =
    let good = (set_here (goal.at.offset_bounds-items-start c).In-loop-k).good in omega (arith, good.ordered, good.entries)

pub slice_bounds-meet_left-count : goal.slice_bounds-meet_left-count
slice_bounds-meet_left-count c = (set_here (goal.at.slice_bounds-meet_left-count c).In-loop-k).good.ordered

pub slice_bounds-meet_left-start : goal.slice_bounds-meet_left-start
slice_bounds-meet_left-start c = (set_here (goal.at.slice_bounds-meet_left-start c).In-loop-k).good.ordered

pub slice_bounds-meet_left-end : goal.slice_bounds-meet_left-end
slice_bounds-meet_left-end c = (set_here (goal.at.slice_bounds-meet_left-end c).In-loop-k).good.within

pub meet_left-met-requires : goal.meet_left-met-requires
meet_left-met-requires c =
    record {
      there = set_there c.loop-k.invariant c.loop-k-test.true c.store_counters.ensures c.requires.there.longest;
      positions = c.requires.positions;
    }

pub checks_of-requires : goal.checks_of-requires
checks_of-requires c =
    lefts_fit c.loop-k.invariant c.loop-k-test.true c.store_counters.ensures c.meet_left-met.ensures.added
    c.meet_left-met.ensures.signs

pub returns-then-budget-checks_of : goal.returns-then-budget-checks_of
returns-then-budget-checks_of c =
    lefts_spent c.loop-k.invariant c.loop-k-test.true c.store_counters.ensures c.meet_left-met.ensures.added
    c.meet_left-met.ensures.signs (omega (arith, c.if-budget-checks_of.true, c.checks_of.ensures))

pub loop-k-preserved : goal.loop-k-preserved
loop-k-preserved c =
    lefts_step c.loop-k.invariant c.loop-k-test.true c.store_counters.ensures c.meet_left-met.ensures.added
    c.meet_left-met.ensures.signs _ (omega (arith, c.if-budget-checks_of.false, c.checks_of.ensures))
    c.meet_left-met.auto.path

pub returns : goal.returns
returns c = lefts_end c.loop-k.invariant (omega (arith, c.loop-k-test.false))
