-- Pairs written into a list that may be short: one part after another, and the loop over what is left.
use Prim.Native.Nat.{ℕ, zero, suc, ◌+◌, ◌-◌, ◌*◌, ◌<◌, ◌≤◌}
use mathlib.Core.Path.{◌≡◌, refl, sym, ap, ◌∙◌}
use mathlib.Core.List.{List, [], ◌∷◌, ◌++◌}
use native.Mathlib.Numerals.{add-one}
use native.Mathlib.Omega.{arith}
use lib.ListN.{length, length-append, take, drop, get_or, set}
use lib.Seq.{length-sets, take_at, ext_get_or}
use Rattle.lists.specs.Lists.{count, range, upto, slice}
use Rattle.lists.specs.Writing.{Put}
use Rattle.lists.proofs.Filling.{sets_front}
use Rattle.lists.proofs.Filtering.{length-keep}
use Rattle.lists.proofs.Slices.{length-slice, get_d_slice}
use Rattle.lists.proofs.Ranges.{length_table, get_d_table}
use Rattle.lists.proofs.Writing.{put_append}
use Rattle.bit_sets.specs.BitSets.{bit_at, digits_from}
use Rattle.bit_sets.proofs.Digits.{digits_keep}
use Rattle.bit_sets.proofs.Counted.{count_shift}
use Rattle.merge_rows.specs.ShortLists.{pairs_with, Listed, right_places}

pub listed_none : (was : List ℕ) (at : ℕ) → Listed was at [] at was
listed_none was at = record { past = omega arith; size = refl; written = λ fits. refl }

pub listed_put : {was is : List ℕ} {at r : ℕ} {new : List ℕ} → Put was at new r is → Listed was at new r is
listed_put {was} {is} {at} {r} {new} put =
    record { past = put.past; size = ap length put.written ∙ length-sets was at new; written = λ fits. put.written }

-- nothing is stored where they would pass the end
pub listed_past : (was : List ℕ) (at : ℕ) (new : List ℕ) (r : ℕ) → r ≡ at + length new → length was < r → Listed was at new r was
listed_past was at new r past long = record { past = past; size = refl; written = λ fits. absurd (omega arith) }

-- one pair
pub put_pair : (was : List ℕ) (at k s : ℕ) → Put was at (k ∷ s ∷ []) (at + 2) (set (set was at k) (at + 1) s)
put_pair was at k s = rw (add-one at) (record { written = refl; past = refl })

-- one part after another
pub listed_append : {was mid is : List ℕ} {at r end : ℕ} {a b : List ℕ} → Listed was at a r mid → Listed mid r b end is
    → Listed was at (a ++ b) end is
listed_append {was} {mid} {is} {at} {r} {end} {a} {b} p q =
    record {
      past = omega (arith, p.past, q.past, length-append a b);
      size = q.size ∙ p.size;
      written =
          λ fits.
          (put_append {was = was} {a = a} {b = b}
          (record { written = p.written (omega (arith, q.past)); past = p.past })
          (record { written = q.written (omega (arith, p.size)); past = q.past })
          ).written;
    }

-- what stands in the list up to the place, where it fits
pub listed_take : {was is : List ℕ} {r : ℕ} {new : List ℕ} → Listed was 0 new r is → r ≤ length was → take r is ≡ new
listed_take {was} {is} {r} {new} listed fits =
    ap (take r) (listed.written fits ∙ sets_front new was (omega (arith, listed.past)))
    ∙ take_at new (drop (length new) was) r (omega (arith, listed.past))

pub length_pairs : (k : ℕ) (places : List ℕ) → length (pairs_with k places) ≡ 2 * length places
unfolding pairs_with
length_pairs k [] = refl
length_pairs k (s ∷ places) = omega (arith, length_pairs k places)

pub pairs_append : (k : ℕ) (a b : List ℕ) → pairs_with k (a ++ b) ≡ pairs_with k a ++ pairs_with k b
unfolding pairs_with
pairs_append k [] b = refl
pairs_append k (s ∷ a) b = ap (λ (l : List ℕ). k ∷ s ∷ l) (pairs_append k a b)

-- a word has as many pairs as digits 1
pub length_digits : (base word : ℕ) → length (digits_from 64 base word) ≡ count (bit_at word) (upto 64)
length_digits base word =
    let same = digits_keep (λ s. bit_at word (s - base)) 64 base word (λ j below. ap (bit_at word) (omega arith)) in
    ap length same ∙ length-keep (λ s. bit_at word (s - base)) (range base 64)
    ∙ count_shift (λ s. bit_at word (s - base)) (bit_at word) base 0 64 (λ j below. ap (bit_at word) (omega arith))

-- the right place of a pair
pairs_right : (k : ℕ) (places : List ℕ) (i : ℕ) → i < length places → get_or (pairs_with k places) (2 * i + 1) 0 ≡ get_or places i 0
unfolding pairs_with
pairs_right k [] i below = absurd (omega arith)
pairs_right k (s ∷ places) zero below = refl
pairs_right k (s ∷ places) (suc i) below =
    let next : 2 * suc i + 1 ≡ suc (suc (2 * i + 1)) = omega arith in
    rw next (pairs_right k places i (omega arith))

-- the right places of pairs that stand in a list
pub right_places_lem : (pairs : List ℕ) (from to n k : ℕ) (places : List ℕ) → to ≤ length pairs → slice from to pairs ≡ pairs_with k places
    → to ≡ from + 2 * n → right_places pairs from n ≡ places
right_places_lem pairs from to n k places within stands even =
    let long : length places ≡ n =
    omega (arith, length_pairs k places, ap length stands, length-slice from to pairs within)
    in
    ext_get_or 0 (right_places pairs from n) places (omega (arith, length_table right n))
    (λ i below.
    let inside : i < n = omega (arith, length_table right n) in
    let at : from + 2 * i + 1 ≡ from + (2 * i + 1) = omega arith in
    get_d_table right n i 0 inside ∙ ap (λ (j : ℕ). get_or pairs j 0) at
    ∙ sym (get_d_slice 0 from to (2 * i + 1) pairs (omega arith)) ∙ ap (λ (l : List ℕ). get_or l (2 * i + 1) 0) stands
    ∙ pairs_right k places i (omega arith))
  where
    right : ℕ → ℕ
    right i = get_or pairs (from + 2 * i + 1) 0
