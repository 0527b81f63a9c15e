use Prim.Native.Nat.{ℕ, suc, ◌+◌, ◌*◌, ◌<◌, ◌≤◌}
use mathlib.Core.Path.{◌≡◌, refl, sym, ap, subst, ◌∙◌}
use mathlib.Core.List.{List, [], ◌∷◌, ◌++◌}
use native.Mathlib.Numerals.{add-one}
use native.Mathlib.Omega.{arith}
use lib.ListN.{get_or, drop, set, drop_of_length-le}
use lib.Seq.{drop-cons, take-set-le}
use Rattle.lists.specs.Writing.{Put}
use Rattle.lists.proofs.Ranges.{length_table, get_d_table}
use Rattle.lists.proofs.Slices.{frame_at}
use Rattle.lists.proofs.Writing.{Writing, writing_start, writing_step, writing_end}
use Rattle.merge_rows.specs.ShortLists.{pairs_with, right_places, CopyRoom}
use Rattle.merge_rows.proofs.ShortWriting.{put_pair, length_pairs}
use Rattle.merge_rows.proofs.listed.put_copy.Invariants.{CopyLeft}
use Rattle.merge_rows.proofs.listed.put_copy.Goals as goal

copy_start : {from n k at : ℕ} {was : List ℕ} → CopyRoom from n k at was → CopyLeft was from n k at was 0
copy_start {from} {n} {k} {at} {was} room =
    let here : at ≡ at + 2 * 0 = omega arith in
    let long = length_pairs k (right_places was from n) in
    let table = length_table (λ i. get_or was (from + 2 * i + 1) 0) n in
    record {
      writing =
          subst (λ (e : ℕ). Writing was at (pairs_with k (right_places was from n)) was e (pairs_with k (right_places was from n))) here
          (writing_start was at (pairs_with k (right_places was from n)) (omega (arith, room.room)));
      low = refl;
    }

module _ {was : List ℕ} {from n k at : ℕ} {is : List ℕ} {i : ℕ} (room : CopyRoom from n k at was) (left : CopyLeft was from n k at is i) where
  module _ (more : i < n) where
    -- the right place that is read
    abbrev right : ℕ
    right = get_or is (from + 2 * i + 1) 0

    read : get_or (right_places was from n) i 0 ≡ right
    read =
        get_d_table (λ j. get_or was (from + 2 * j + 1) 0) n i 0 more
        ∙ sym (frame_at 0 (from + 2 * i + 1) at was is (omega (arith, room.source.below)) left.low)

    next : pairs_with k (drop i (right_places was from n)) ≡ (k ∷ right ∷ []) ++ pairs_with k (drop (i + 1) (right_places was from n))
    unfolding pairs_with
    next =
        let table = length_table (λ j. get_or was (from + 2 * j + 1) 0) n in
        rw (add-one i)
        (ap (pairs_with k) (drop-cons (right_places was from n) i 0 (omega arith))
        ∙ ap (λ (s : ℕ). k ∷ s ∷ pairs_with k (drop (suc i) (right_places was from n))) read)

    copy_step : CopyLeft was from n k at (set (set is (at + 2 * i) k) (at + 2 * i + 1) right) (i + 1)
    copy_step =
        let end : at + 2 * i + 2 ≡ at + 2 * (i + 1) = omega arith in
        record {
          writing =
              subst (λ (e : ℕ). Writing was at (pairs_with k (right_places was from n)) (set (set is (at + 2 * i) k) (at + 2 * i + 1) right) e
              (pairs_with k (drop (i + 1) (right_places was from n)))) end
              (writing_step left.writing next (put_pair is (at + 2 * i) k right));
          low =
              take-set-le at (set is (at + 2 * i) k) (at + 2 * i + 1) right (omega arith)
              ∙ take-set-le at is (at + 2 * i) k (omega arith) ∙ left.low;
        }

  copy-end : n ≤ i → i ≤ n → Put was at (pairs_with k (right_places was from n)) (at + 2 * n) is
  unfolding pairs_with
  copy-end past within =
      let table = length_table (λ j. get_or was (from + 2 * j + 1) 0) n in
      let here : at + 2 * i ≡ at + 2 * n = omega arith in
      subst (λ (e : ℕ). Put was at (pairs_with k (right_places was from n)) e is) here
      (writing_end left.writing (ap (pairs_with k) (drop_of_length-le (right_places was from n) {i = i} (omega arith))))

pub loop-i-init : goal.loop-i-init
loop-i-init c = copy_start c.requires

pub loop-i-preserved : goal.loop-i-preserved
loop-i-preserved c = copy_step c.requires c.loop-i.invariant c.loop-i-test.true

pub returns : goal.returns
returns c = copy-end c.requires c.loop-i.invariant c.loop-i-test.false c.loop-i.auto.i-end
