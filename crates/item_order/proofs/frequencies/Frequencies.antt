-- The frequencies from the entries of both sides: what `count_side` and `count_both` ask and give, and their bound.
use mathlib.Core.Path.{◌≡◌, sym, ap, ◌∙◌}
use mathlib.Core.List.{List, map}
use mathlib.Core.Bool.{true}
use Prim.Native.Nat.{ℕ, ◌+◌, ◌<◌, ◌≤◌}
use native.Mathlib.Omega.{arith}
use borrow.Author.Tests.{ltb-true, ltb-false, le-leb}
use lib.Dec.{ltb, leb}
use lib.ListN.{length, get_or, take, get_or-eq_default}
use lib.Seq.{ext_get_or, length-take-le}
use Rattle.std.specs.Prelude.{None}
use Rattle.lists.specs.Lists.{count, all, memb, upto}
use Rattle.lists.proofs.Bools.{by_test}
use Rattle.lists.proofs.Counting.{count_bound}
use Rattle.lists.proofs.Ranges.{length_table, get_d_table, all_table}
use Rattle.lists.proofs.Zeros.{get_d_zeros}
use Rattle.sets.specs.Limits.{max_sets}
use Rattle.sets.specs.Collections.{Collection, sets_in, first_bad_in, entries}
use Rattle.sets.proofs.Between.{length-sets}
use Rattle.sets.proofs.Good.{good_places, good_entries}
use Rattle.sets.proofs.Entries.{entries_below, count-sets}
use Rattle.inputs.specs.Input.{Input, left_sets, right_sets}
use Rattle.item_order_spec.specs.Order.{frequency}
use Rattle.item_order.specs.frequencies.Counts.{CanTally, TalliedInto, CanCount, CanCountBoth}

-- the entries of one side
module _ {side : Collection} {frequencies : List ℕ} (pre : CanCount side frequencies) {n : ℕ} (whole : n ≡ entries side.ends) where
  pub entries_long : n ≡ length (take n side.items)
  entries_long =
      sym (length-take-le n side.items (omega (arith, whole, (good_entries (length frequencies) side.ends side.items pre.good).within)))

  pub can_tally_side : CanTally (take n side.items) frequencies
  can_tally_side =
      record {
        below = rw whole (entries_below (length frequencies) side.ends side.items pre.good);
        room = λ k. rw (whole, ← count-sets (length frequencies) k side.ends side.items pre.good) (pre.room k);
      }

  pub side_counted : (is : List ℕ) → TalliedInto (take n side.items) frequencies is → (i : ℕ) → i < length frequencies
      → get_or is i 0 ≡ get_or frequencies i 0 + count (memb i) (sets_in side)
  side_counted is done i below =
      rw (count-sets (length frequencies) i side.ends side.items pre.good, ← whole) (done i below)

-- at most as many sets hold an item as there are
pub side_bound : (i : ℕ) (side : Collection) → count (memb i) (sets_in side) ≤ length side.ends
side_bound i side = omega (arith, count_bound (memb i) (sets_in side), length-sets 0 side.ends side.items)

side_limit : (T i : ℕ) (side : Collection) → first_bad_in T side ≡ None → count (memb i) (sets_in side) ≤ max_sets
side_limit T i side good = omega (arith, side_bound i side, good_places T side.ends side.items good)

-- one side, then the other
module _ {i : Input} {zeros : List ℕ} (pre : CanCountBoth i zeros) where
  zeros_at : (k : ℕ) → get_or zeros k 0 ≡ 0
  zeros_at k = ap (λ (l : List ℕ). get_or l k 0) pre.clear ∙ get_d_zeros (length zeros) k

  pub can_count_left : CanCount i.left zeros
  can_count_left =
      record {
        good = pre.left;
        room = λ k. omega (arith, zeros_at k, side_limit (length zeros) k i.left pre.left);
      }

  module _ (first : List ℕ) (same : length first ≡ length zeros)
      (done : (k : ℕ) → k < length zeros → get_or first k 0 ≡ get_or zeros k 0 + count (memb k) (left_sets i)) where
    first_limit : (k : ℕ) → get_or first k 0 ≤ max_sets
    first_limit k =
        by_test (ltb k (length zeros))
        (λ e.
        omega (
          arith,
          done k (ltb-true k (length zeros) e),
          zeros_at k,
          side_limit (length zeros) k i.left pre.left,
        ))
        (λ e.
        let past : length first ≤ k = omega (arith, ltb-false k (length zeros) e) in
        omega (arith, get_or-eq_default first 0 {n = k} past))

    pub can_count_right : CanCount i.right first
    can_count_right =
        record {
          good = rw same pre.right;
          room = λ k. omega (arith, first_limit k, side_limit (length zeros) k i.right pre.right);
        }

    pub both_counted : (second : List ℕ) → length second ≡ length first
        → ((k : ℕ) → k < length first → get_or second k 0 ≡ get_or first k 0 + count (memb k) (right_sets i))
        → second ≡ map (frequency (left_sets i) (right_sets i)) (upto (length zeros))
    both_counted second long rest =
        let table = frequency (left_sets i) (right_sets i) in
        ext_get_or 0 second (map table (upto (length zeros))) (long ∙ same ∙ sym (length_table table (length zeros)))
        (λ k below.
        omega (
          arith,
          get_d_table table (length zeros) k 0 (omega arith),
          rest k (omega arith),
          done k (omega arith),
          zeros_at k,
        ))

-- no frequency is above the number of sets
pub frequency_bound : (i : Input) (k : ℕ) → frequency (left_sets i) (right_sets i) k ≤ length i.left.ends + length i.right.ends
frequency_bound i k = omega (arith, side_bound k i.left, side_bound k i.right)

pub table_bound : (f : ℕ → ℕ) (top n : ℕ) → ((i : ℕ) → f i ≤ top) → all (λ x. leb x top) (map f (upto n)) ≡ true
table_bound f top n low = all_table (λ x. leb x top) f n (λ i below. le-leb (f i) top (low i))
