-- `merge_rows::left::meet_block` meets its contract: the candidates that hold more are listed; the others are counted, those that the
-- signature drops and those that it does not.
use Prim.Native.Nat.{ℕ}
use mathlib.Core.Path.{◌≡◌, ap, ◌∙◌}
use mathlib.Core.List.{List}
use native.Mathlib.Nat.{sub-zero}
use native.Mathlib.Omega.{arith}
use lib.ListN.{length}
use lib.Seq.{take-length}
use Rattle.sets.specs.Collections.{between}
use Rattle.sets.specs.Signatures.{signature}
use Rattle.merge_rows.proofs.SignedLaws.{signs_none}
use Rattle.merge_rows.proofs.BlockSteps.{row_small, row_room, block_places, block_signs, held_small, block_whole}
use Rattle.merge_rows.proofs.BlockSteps.{others_places, drops_within, drops_small, falses_small, block_checked}
use Rattle.merge_rows.proofs.left.meet_block.Goals as goal

-- a whole list is signed
signed_whole : (more : List ℕ) {mark : ℕ} → mark ≡ signature (between 0 (length more) more) → mark ≡ signature more
signed_whole more is = is ∙ ap signature (rw (sub-zero (length more)) (take-length more))

pub overflow_add-q : goal.overflow_add-q
overflow_add-q c = omega (arith, block_places c.requires.there)

pub overflow_mul-t : goal.overflow_mul-t
overflow_mul-t c =
    omega (arith, row_small c.requires.there.ground c.args.q c.requires.there.block)

pub shared-held-requires : goal.shared-held-requires
shared-held-requires c =
    row_room c.requires.there.ground c.args.q c.args.more.now c.requires.there.block c.requires.there.besides

pub overflow_mul-q : goal.overflow_mul-q
overflow_mul-q c = omega (arith, block_places c.requires.there)

pub list_word-end-requires : goal.list_word-end-requires
list_word-end-requires c =
    record {
      places = block_places c.requires.there;
      small = held_small c.requires.there c.shared-held.result c.shared-held.ensures;
    }

pub returns-then-held-word : goal.returns-then-held-word
returns-then-held-word c =
    record {
      yielded = block_whole c.requires.there c.shared-held.result c.shared-held.ensures c.if-held-word.true c.list_word-end.ensures;
      signs = signs_none c.requires.there.ground.signed;
    }

pub overflow_mul-q-2 : goal.overflow_mul-q-2
overflow_mul-q-2 c = omega (arith, block_places c.requires.there)

pub count_drops-dropped-requires : goal.count_drops-dropped-requires
count_drops-dropped-requires c =
    record {
      room = block_signs c.requires.there;
      positions = c.requires.positions;
      places = others_places c.requires.there c.shared-held.result c.shared-held.ensures;
    }

pub overflow_add-result : goal.overflow_add-result
overflow_add-result c =
    omega (
      arith,
      drops_small c.requires.there c.shared-held.result c.shared-held.ensures (signed_whole c.args.more.now c.sign_set-mark.ensures)
          c.count_drops-dropped.ensures.counted,
    )

pub overflow_sub-result : goal.overflow_sub-result
overflow_sub-result c =
    drops_within c.requires.there c.shared-held.result c.shared-held.ensures (signed_whole c.args.more.now c.sign_set-mark.ensures)
    c.count_drops-dropped.ensures.counted c.ones_of.ensures

pub overflow_add-result-2 : goal.overflow_add-result-2
overflow_add-result-2 c =
    omega (
      arith,
      falses_small c.requires.there c.shared-held.result c.shared-held.ensures (signed_whole c.args.more.now c.sign_set-mark.ensures)
          c.count_drops-dropped.ensures.counted c.ones_of.ensures,
    )

pub returns : goal.returns
returns c =
    record {
      yielded = block_checked c.requires.there c.shared-held.result c.shared-held.ensures (signed_whole c.args.more.now c.sign_set-mark.ensures)
          c.count_drops-dropped.ensures.counted c.ones_of.ensures c.list_word-end.ensures;
      signs = c.count_drops-dropped.ensures.signs;
    }
