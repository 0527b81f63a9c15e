use Prim.Native.Nat.{◌-◌}
use native.Mathlib.Omega.{arith}
use lib.Bits.{and_le_r}
use lib.Count.{trailing_le}
use Rattle.merge_rows.proofs.RowReads.{ground_signs}
use Rattle.merge_rows.proofs.BlockSteps.{blocks_start, blocks_end, first_block, block_there}
use Rattle.merge_rows.proofs.BlockSteps.{blocks_none, blocks_step, blocks_same}
use Rattle.merge_rows.proofs.BlockSteps.{row_small, row_room}
use Rattle.merge_rows.proofs.left.meet_blocks.Goals as goal
use Rattle.merge_rows.proofs.left.meet_blocks.Goals.{else-word-ne0, then-word-ne0}

pub loop-rest-init : goal.loop-rest-init
loop-rest-init c =
    blocks_start c.requires.there c.args.pairs.now c.requires.blocks c.ranges.blocks.fits

pub overflow_cast-q : goal.overflow_cast-q
overflow_cast-q c = omega (arith, trailing_le 64 c.loop-rest.rest)

pub overflow_add-q : goal.overflow_add-q
overflow_add-q c = omega (arith, trailing_le 64 c.loop-rest.rest)

pub overflow_mul-t : goal.overflow_mul-t
overflow_mul-t c =
    omega (
      arith,
      row_small c.requires.there.ground _ (first_block c.requires.there c.loop-rest.invariant c.loop-rest-test.true),
    )

pub shared-word-requires : goal.shared-word-requires
shared-word-requires c =
    let inv = c.loop-rest.invariant in
    row_room (ground_signs c.requires.there.ground inv.signs) _ _ (first_block c.requires.there inv c.loop-rest-test.true) c.requires.there.along

pub meet_block-met-requires : goal.meet_block-met-requires
meet_block-met-requires c =
    record {
      there = block_there c.requires.there c.loop-rest.invariant c.loop-rest-test.true c.shared-word.result c.shared-word.ensures;
      positions = c.requires.positions;
    }

pub loop-rest-smaller : goal.loop-rest-smaller
loop-rest-smaller c =
    let rest = c.loop-rest.rest in omega (arith, and_le_r rest (rest - 1))

pub loop-rest-preserved : goal.loop-rest-preserved
loop-rest-preserved c =
    let inv = c.loop-rest.invariant in
    let some = c.loop-rest-test.true in
    elim c.if-word-ne0.branch [
      | then-word-ne0 w ↦ blocks_same w.work-is w.pairs-is w.met-is
          (blocks_step c.requires.there inv some c.shared-word.result c.shared-word.ensures w.meet_block-met.ensures.yielded w.meet_block-met.ensures.signs)
      | else-word-ne0 w ↦ blocks_same w.work-is w.pairs-is w.met-is
          (blocks_none c.requires.there inv some c.shared-word.result c.shared-word.ensures w.if-word-ne0.false)
    ]

pub shape_of-work : goal.shape_of-work
shape_of-work c = c.loop-rest.invariant.signs.size

pub shape_of-pairs : goal.shape_of-pairs
shape_of-pairs c = c.loop-rest.invariant.yielded.listed.size

pub returns : goal.returns
returns c = record {
  yielded = blocks_end c.requires.there c.loop-rest.invariant c.loop-rest-test.false;
  signs = c.loop-rest.invariant.signs;
}
