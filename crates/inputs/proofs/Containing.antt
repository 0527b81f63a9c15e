-- The merge of two rising lists that decides containment where the left one has an item: what is left of both decides it, and both
-- rise.
use Prim.Native.Nat.{ℕ, suc, ◌+◌, ◌≤◌, ◌<◌}
use mathlib.Core.Path.{◌≡◌, sym, ◌∙◌}
use mathlib.Core.List.{List, [], ◌∷◌}
use mathlib.Core.Bool.{true, false}
use native.Mathlib.Numerals.{add-one}
use native.Mathlib.Omega.{arith}
use lib.ListN.{length, get_or, drop, drop_of_length-le}
use lib.Seq.{drop-cons}
use Rattle.lists.specs.Lists.{rising, subset}
use Rattle.lists.proofs.Throughout.{subset_nil, subset_none}
use Rattle.lists.proofs.Rising.{rising_tail}
use Rattle.lists.proofs.Merging.{subset_low, subset_same, subset_high}
use Rattle.sets.specs.Collections.{contained}
use Rattle.sets.proofs.Containment.{contained_none, contained-subset}

pub record Containing (left right : List ℕ) (i j : ℕ) : Type 0 where
  pub left_rises : rising (drop i left) ≡ true
  pub right_rises : rising (drop j right) ≡ true
  pub same : subset (drop i left) (drop j right) ≡ contained left right

-- an empty left set is contained in none
pub containing_none : (left right : List ℕ) → length left ≡ 0 → false ≡ contained left right
containing_none [] right none = sym (contained_none right)
containing_none (i ∷ left) right none = absurd (omega arith)

pub containing_start : (left right : List ℕ) → 0 < length left → rising left ≡ true → rising right ≡ true → Containing left right 0 0
containing_start left right some rise rises =
    record { left_rises = rise; right_rises = rises; same = sym (contained-subset left right some) }

rising-further : (l : List ℕ) (i : ℕ) → i < length l → rising (drop i l) ≡ true → rising (drop (i + 1) l) ≡ true
rising-further l i h r = rw (add-one i) (rising_tail (get_or l i 0) (drop (suc i) l) (rw (drop-cons l i 0 h) at r))

module _ {left right : List ℕ} {i j : ℕ} (m : Containing left right i j) where
  -- an item of the left set that nothing is left for
  pub containing-stop : i < length left → length right ≤ j → false ≡ contained left right
  containing-stop more none =
      sym (rw (drop-cons left i 0 more, drop_of_length-le right {i = j} none) (subset_none (get_or left i 0) _)) ∙ m.same

  -- no item is left
  pub containing_end : length left ≤ i → true ≡ contained left right
  containing_end none = sym (rw (drop_of_length-le left {i = i} none) (subset_nil (drop j right))) ∙ m.same

  module _ (more : i < length left) (other : j < length right) where
    pub containing_low : get_or left i 0 < get_or right j 0 → false ≡ contained left right
    containing_low h =
        sym
        (rw (drop-cons left i 0 more, drop-cons right j 0 other)
        (subset_low (get_or left i 0) _ (get_or right j 0) _ h (rw (drop-cons right j 0 other) at m.right_rises)))
        ∙ m.same

    pub containing_same : get_or left i 0 ≡ get_or right j 0 → Containing left right (i + 1) (j + 1)
    containing_same h =
        record {
          left_rises = rising-further left i more m.left_rises;
          right_rises = rising-further right j other m.right_rises;
          same =
              sym
              (rw (add-one i, add-one j, drop-cons left i 0 more, drop-cons right j 0 other)
              (subset_same (get_or left i 0) _ (get_or right j 0) _ h (rw (drop-cons left i 0 more) at m.left_rises)))
              ∙ m.same;
        }

    pub containing_high : get_or right j 0 < get_or left i 0 → Containing left right i (j + 1)
    containing_high h =
        record {
          left_rises = m.left_rises;
          right_rises = rising-further right j other m.right_rises;
          same =
              sym
              (rw (add-one j, drop-cons left i 0 more, drop-cons right j 0 other)
              (subset_high (get_or left i 0) _ (get_or right j 0) _ h (rw (drop-cons left i 0 more) at m.left_rises)))
              ∙ m.same;
        }
