-- The loop of `tally`. The invariant: what is counted and what is left to count make the whole tally.
use mathlib.Core.Path.{◌≡◌, refl, ◌∙◌}
use mathlib.Core.List.{List}
use Prim.Native.Nat.{ℕ, ◌+◌, ◌<◌, ◌≤◌}
use native.Mathlib.Omega.{arith}
use borrow.Author.Tests.{ltb-true, eq-eqb}
use lib.Dec.{eqb, ltb}
use lib.ListN.{length, get_or, drop, set, length-set}
use Rattle.lists.specs.Lists.{one, count}
use Rattle.lists.proofs.Throughout.{all_at}
use Rattle.lists.proofs.Counting.{count-drop, count-drop_end, tally_set}
use Rattle.sets.specs.Limits.{half_words}
use Rattle.item_order.specs.frequencies.Counts.{CanTally, TalliedInto}

pub record CountingOccurrences (xs was is : List ℕ) (i n : ℕ) : Type 0 where
  pub same : length is ≡ length was
  pub whole : n ≡ length xs
  pub within : i ≤ n
  pub together : (k : ℕ) → get_or is k 0 + count (eqb k) (drop i xs) ≡ get_or was k 0 + count (eqb k) xs

pub tally_index : {xs was is : List ℕ} {i n : ℕ} → CanTally xs was → CountingOccurrences xs was is i n → i < n
    → get_or xs i 0 < length is
tally_index {xs} {was} {is} {i} pre inv below =
    omega (arith, ltb-true (get_or xs i 0) (length was) (all_at (λ x. ltb x (length was)) 0 xs pre.below i (omega arith)))

pub tally_room : {xs was is : List ℕ} {i n : ℕ} → CanTally xs was → CountingOccurrences xs was is i n → i < n
    → get_or is (get_or xs i 0) 0 + 1 < half_words
tally_room {xs} {was} {is} {i} pre inv below =
    let x = get_or xs i 0 in
    let once : one (eqb x x) ≡ 1 = rw (eq-eqb x x refl) in
    omega (arith, once, inv.together x, count-drop (eqb x) 0 xs i (omega arith), pre.room x)

pub tally_step : {xs was is : List ℕ} {i n : ℕ} → CanTally xs was → CountingOccurrences xs was is i n → i < n
    → CountingOccurrences xs was (set is (get_or xs i 0) (get_or is (get_or xs i 0) 0 + 1)) (i + 1) n
tally_step {xs} {was} {is} {i} pre inv below =
    let x = get_or xs i 0 in
    let inside : x < length is = tally_index pre inv below in
    record {
      same = length-set is x (get_or is x 0 + 1) ∙ inv.same;
      whole = inv.whole;
      within = omega arith;
      together = λ k. omega (arith, tally_set is x k inside, inv.together k, count-drop (eqb k) 0 xs i (omega arith));
    }

pub tally_end : {xs was is : List ℕ} {i n : ℕ} → CountingOccurrences xs was is i n → n ≤ i → TalliedInto xs was is
tally_end {xs} {was} {is} {i} inv past k below = omega (arith, inv.together k, count-drop_end (eqb k) xs i (omega arith))
