-- `merge_rows::left::meet_path` meets its contract: no block has all of the path; or an equal left set came before, whose counters is told by its
-- words; or the blocks are met one by one.
use Rattle.merge_rows.proofs.SignedLaws.{signs_none, signs_then}
use Rattle.merge_rows.proofs.PathSteps.{path_sums, path_blocks, path_nothing, path_hinted, hint_signs, counters_hinted, counters_there}
use Rattle.merge_rows.proofs.left.meet_path.Goals as goal

pub shared-blocks-requires : goal.shared-blocks-requires
shared-blocks-requires c =
    path_sums c.requires.there

pub returns-then-blocks-eq0 : goal.returns-then-blocks-eq0
returns-then-blocks-eq0 c =
    record {
      yielded = path_nothing c.requires.there c.args.pairs.now (path_blocks c.requires.there c.shared-blocks.result c.shared-blocks.ensures) c.if-blocks-eq0.true;
      signs = signs_none c.requires.there.ground.signed;
    }

pub repeat_left-requires : goal.repeat_left-requires
repeat_left-requires c =
    let before = c.is_earlier.ensures c.if-is_earlier.true in
    counters_there c.requires.there c.requires.laid c.swap_hint-j.ensures before.before c.requires.hint.place
    (c.requires.alike _ before.before before.is)

pub returns-then-is_earlier : goal.returns-then-is_earlier
returns-then-is_earlier c =
    let before = c.is_earlier.ensures c.if-is_earlier.true in
    record {
      yielded = c.repeat_left.ensures _
          (counters_hinted c.requires.there c.requires.laid c.swap_hint-j.ensures before.before c.requires.hint.place
          (c.requires.alike _ before.before before.is));
      signs = hint_signs c.requires.there c.requires.laid c.swap_hint-j.ensures;
    }

pub meet_blocks-requires : goal.meet_blocks-requires
meet_blocks-requires c =
    record {
      there = path_hinted c.requires.there c.requires.laid c.swap_hint-j.ensures;
      blocks = path_blocks c.requires.there c.shared-blocks.result c.shared-blocks.ensures;
      positions = c.requires.positions;
    }

pub returns : goal.returns
returns c =
    record {
      yielded = c.meet_blocks.ensures.yielded;
      signs = signs_then (hint_signs c.requires.there c.requires.laid c.swap_hint-j.ensures) c.meet_blocks.ensures.signs;
    }
