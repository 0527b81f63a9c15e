use Prim.Native.Nat.{ℕ, ◌+◌}
use mathlib.Core.List.{[]}
use mathlib.Core.Bool.{true}
use lib.Dec.{ltb}
use lib.ListN.{get_or, drop}
use borrow.Author.Tests.{ltb-true}
use Rattle.lists.proofs.Throughout.{all_at}
use Rattle.lists.proofs.Writing.{writing_start, writing_step, writing_end, writing_room}
use Rattle.sets.specs.Limits.{max_sets}
use Rattle.join_spec.specs.PairList.{onto_pair}
use Rattle.join_pairs.specs.row_pairs.Containing.{pairs_with}
use Rattle.join_pairs.proofs.row_pairs.RowPairs.{kept_next, kept_none}
use Rattle.join_pairs.proofs.row_pairs.write_kept.Goals as goal

pub loop-s-init : goal.loop-s-init
loop-s-init c =
    let a = c.args in
    writing_start a.pairs.now a.at (pairs_with a.k a.row.now) c.requires.room

pub push-n-requires : goal.push-n-requires
push-n-requires c =
    let a = c.args in
    let row = a.row.now in
    let i = c.loop-s.s-index in
    record {
      left = c.requires.left;
      right = ltb-true (get_or row i 0) max_sets (all_at (λ (s : ℕ). ltb s max_sets) 0 row c.requires.right i c.loop-s-test.true);
      room =
          writing_room c.loop-s.invariant (onto_pair true a.k (get_or row i 0) []) (pairs_with a.k (drop (i + 1) row))
          (kept_next a.k row i c.loop-s-test.true);
    }

pub loop-s-preserved : goal.loop-s-preserved
loop-s-preserved c =
    writing_step c.loop-s.invariant (kept_next c.args.k c.args.row.now c.loop-s.s-index c.loop-s-test.true) c.push-n.ensures

pub returns : goal.returns
returns c =
    writing_end c.loop-s.invariant (kept_none c.args.k c.args.row.now c.loop-s.s-index c.loop-s-test.false)
