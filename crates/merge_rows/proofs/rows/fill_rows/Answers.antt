use Prim.Native.Nat.{◌*◌, ◌≤◌}
use mathlib.Core.Path.{refl}
use mathlib.Core.List.{[]}
use native.Mathlib.Omega.{arith}
use lib.ListN.{length, get_or}
use Rattle.sets.specs.Collections.{sets_of}
use Rattle.side_index.proofs.inverted.Collected.{SetAt}
use Rattle.merge_rows.specs.Filled.{row_words, BlockRoom}
use Rattle.merge_rows.proofs.FillSteps.{rows_none, set_next, block_room, filling_step, filling_end}
use Rattle.merge_rows.proofs.rows.fill_rows.Goals as goal
use Rattle.merge_rows.proofs.rows.fill_rows.Goals.{At-loop-s, In-loop-s}

-- after the sums are cleared there is still room
room_there : (c : At-loop-s)
    → 2 * row_words c.args.t (length c.args.sets.now.ends.now) ≤ length c.clear.new.work
room_there c = omega (arith, c.requires.room, c.clear.ensures.changed.size)

-- the right set at hand, and room for its block
set_here : (c : In-loop-s)
    → let a = c.args in
    let l = c.loop-s in
    SetAt a.t l.s l.start (get_or a.sets.now.ends.now l.s 0) (get_or (sets_of a.sets.now.ends.now a.sets.now.items.now) l.s []) a.sets.now.items.now
set_here c =
    set_next c.loop-s.invariant c.requires.few c.requires.good (room_there (goal.at.In-loop-s c).At-loop-s) (omega arith)

block_here : (c : In-loop-s) → BlockRoom c.args.t c.loop-s.s c.loop-s.work
block_here c =
    block_room c.loop-s.invariant c.requires.few c.requires.good (room_there (goal.at.In-loop-s c).At-loop-s) (omega arith)

pub loop-s-init : goal.loop-s-init
loop-s-init c =
    record {
      rows =
          rows_none c.clear.ensures
          (omega (arith, c.requires.room, c.clear.ensures.changed.size));
      size = refl;
      place = omega arith;
      begins = refl;
    }

pub open_block-requires : goal.open_block-requires
open_block-requires c = block_here (goal.at.open_block-requires c).In-loop-s

pub offset_bounds-items-start : goal.offset_bounds-items-start
offset_bounds-items-start c =
    let good = (set_here (goal.at.offset_bounds-items-start c).In-loop-s).good in omega (arith, good.ordered, good.entries)

pub slice_bounds-add_right-count : goal.slice_bounds-add_right-count
slice_bounds-add_right-count c = (set_here (goal.at.slice_bounds-add_right-count c).In-loop-s).good.ordered

pub slice_bounds-add_right-start : goal.slice_bounds-add_right-start
slice_bounds-add_right-start c = (set_here (goal.at.slice_bounds-add_right-start c).In-loop-s).good.ordered

pub slice_bounds-add_right-end : goal.slice_bounds-add_right-end
slice_bounds-add_right-end c = (set_here (goal.at.slice_bounds-add_right-end c).In-loop-s).good.within

pub add_right-requires : goal.add_right-requires
add_right-requires c =
    let block = block_here (goal.at.add_right-requires c).In-loop-s in
    record {
      block =
          record { few = block.few; place = block.place; room = omega (arith, block.room, c.open_block.ensures.size) };
      items = (set_here (goal.at.add_right-requires c).In-loop-s).good.below;
    }

pub loop-s-preserved : goal.loop-s-preserved
loop-s-preserved c =
    filling_step c.loop-s.invariant c.requires.few c.requires.good (room_there (goal.at.loop-s-preserved c).At-loop-s) (omega arith) c.open_block.ensures
    c.add_right.ensures

pub returns : goal.returns
returns c = filling_end c.loop-s.invariant (omega arith)
