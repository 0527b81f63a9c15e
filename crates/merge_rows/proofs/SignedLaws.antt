-- Signatures made on demand: none, one, and one after the other; and the right sets of a word that a left set's signature drops, counted
-- digit by digit.
use Prim.Native.Nat.{ℕ, zero, suc, ◌+◌, ◌-◌, ◌*◌, ◌/◌, ◌%◌, ◌^◌, ◌<◌, ◌≤◌}
use mathlib.Core.Path.{◌≡◌, refl, sym, ap, ap₂, subst, ◌∙◌}
use mathlib.Core.List.{List, [], ◌∷◌}
use mathlib.Core.Bool.{Bool, true, false}
use native.Mathlib.Omega.{arith}
use borrow.Author.Tests.{eqb-true, eqb-false, ltb-true, ltb-false}
use lib.Bits.{bit_and, and_le_l}
use lib.Count.{count_trailing_zeros}
use lib.Dec.{eqb, ltb}
use lib.ListN.{length, get_or}
use Rattle.lists.specs.Lists.{one, onto, count, all}
use Rattle.lists.proofs.Bools.{by_test, and_left, and_right}
use Rattle.lists.proofs.Counting.{count_bound}
use Rattle.lists.proofs.Slices.{frame_less, rest_at}
use Rattle.sets.specs.Limits.{full_words}
use Rattle.sets.specs.Signatures.{signature}
use Rattle.bit_sets.specs.BitSets.{digits_from}
use Rattle.bit_sets.proofs.Digits.{digits_none}
use Rattle.bit_sets.proofs.Lowest.{digits_lowest}
use Rattle.signatures.specs.Signing.{double, DoubleStored}
use Rattle.signatures.proofs.SigningSets.{double_stays}
use Rattle.merge_rows.specs.SignedSets.{SignedSome, Signs, drops_at, PlacesIn}

pub signs_none : {at : ℕ} {rights : List (List ℕ)} {w : List ℕ} → SignedSome at rights w → Signs at rights w w
signs_none signed = record { low = refl; size = refl; signed = signed }

pub signs_then : {at : ℕ} {rights : List (List ℕ)} {a b c : List ℕ} → Signs at rights a b → Signs at rights b c → Signs at rights a c
signs_then first second =
    record { low = second.low ∙ first.low; size = second.size ∙ first.size; signed = second.signed }

-- one signature more
pub signs_store : {at s mark : ℕ} {rights : List (List ℕ)} {w w' : List ℕ} → SignedSome at rights w → s < length rights
    → mark ≡ signature (get_or rights s []) → DoubleStored (at + 2 * s) mark w w' → Signs at rights w w'
signs_store {at} {s} {mark} {rights} {w} {w'} signed below is stored =
    record {
      low = frame_less at (at + 2 * s) w w' (omega arith) stored.frame;
      size = stored.size;
      signed =
          record {
            room = omega (arith, signed.room, stored.size);
            each = λ r here some.
                by_test (eqb r s)
                (λ t.
                subst (λ (i : ℕ). double w' (at + 2 * i) ≡ signature (get_or rights i [])) (sym (eqb-true r s t)) (stored.is ∙ is))
                (λ f.
                let kept = other r (eqb-false r s f) in
                kept ∙ signed.each r here (λ none. some (kept ∙ none)));
          };
    }
  where
    other : (r : ℕ) → (r ≡ s → ⊥) → double w' (at + 2 * r) ≡ double w (at + 2 * r)
    other r ne =
        by_test (ltb r s)
        (λ t. double_stays (at + 2 * s) (at + 2 * r) w w' stored.frame (omega (arith, ltb-true r s t)))
        (λ f.
        let low : at + 2 * s + 2 ≤ at + 2 * r = omega (arith, ltb-false r s f) in
        ap₂ (λ (a b : ℕ). a + full_words * b) (rest_at 0 (at + 2 * s + 2) (at + 2 * r) w w' low stored.above)
        (rest_at 0 (at + 2 * s + 2) (at + 2 * r + 1) w w' (omega arith) stored.above))

-- a word of k digits has at most k
pub digits_few : (k base word : ℕ) → length (digits_from k base word) ≤ k
unfolding digits_from
digits_few zero base word = omega arith
digits_few (suc k) base word = by_digit (eqb (word % 2) 1) (digits_few k (suc base) (word / 2))
  where
    by_digit : (b : Bool) → length (digits_from k (suc base) (word / 2)) ≤ k
        → length (onto b base (digits_from k (suc base) (word / 2))) ≤ suc k
    by_digit true few = omega arith
    by_digit false few = omega arith

-- of the right sets of a word, whose first is base, those of rest are left; of the others so many were dropped
pub record Dropping (at mark base word : ℕ) (rights : List (List ℕ)) (was is : List ℕ) (rest dropped : ℕ) : Type 0 where
  pub counted : dropped + count (drops_at mark rights) (digits_from 64 base rest) ≡ count (drops_at mark rights) (digits_from 64 base word)
  pub places : PlacesIn (length rights) (digits_from 64 base rest)
  pub small : rest < 2 ^ 64
  pub signs : Signs at rights was is

module _ {at mark base word : ℕ} {rights : List (List ℕ)} {was is : List ℕ} {rest dropped : ℕ}
    (left : Dropping at mark base word rights was is rest dropped) where
  abbrev later : ℕ
  later = bit_and rest (rest - 1)

  module _ (some : rest ≡ 0 → ⊥) where
    abbrev first : ℕ
    first = base + count_trailing_zeros 64 rest

    split : digits_from 64 base rest ≡ first ∷ digits_from 64 base later
    split = digits_lowest 64 64 base rest (omega arith) (omega (arith, some)) left.small

    -- the next right set
    pub drops_place : first < length rights
    unfolding all
    drops_place =
        ltb-true first (length rights)
        (and_left (ltb first (length rights)) (all (λ s. ltb s (length rights)) (digits_from 64 base later)) (rw split at left.places))

    pub drops_room : dropped + one (drops_at mark rights first) ≤ 64
    unfolding count
    drops_room =
        let total = left.counted in
        let here = ap (count (drops_at mark rights)) split in
        omega (arith, count_bound (drops_at mark rights) (digits_from 64 base word), digits_few 64 base word)

    pub drops_step : {next : List ℕ} → Signs at rights is next
        → Dropping at mark base word rights was next later (dropped + one (drops_at mark rights first))
    unfolding count all
    drops_step signs =
        record {
          counted = let total = left.counted in let here = ap (count (drops_at mark rights)) split in omega arith;
          places =
              and_right (ltb first (length rights)) (all (λ s. ltb s (length rights)) (digits_from 64 base later))
              (rw split at left.places);
          small = omega (arith, and_le_l rest (rest - 1), left.small);
          signs = signs_then left.signs signs;
        }

  pub drops_end : rest ≡ 0 → dropped ≡ count (drops_at mark rights) (digits_from 64 base word)
  unfolding count
  drops_end none =
      let gone = ap (λ (r : ℕ). count (drops_at mark rights) (digits_from 64 base r)) none in
      let total = left.counted in
      omega (arith, ap (count (drops_at mark rights)) (digits_none 64 base))
