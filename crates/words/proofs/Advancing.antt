-- Containment of two rising parts, the first word first: the invariants of `search_up` and `skip_lower`, with their steps and ends.
use Prim.Native.Nat.{ℕ, ◌+◌, ◌≤◌, ◌<◌}
use mathlib.Core.Path.{◌≡◌, sym, ◌∙◌}
use mathlib.Core.List.{List}
use mathlib.Core.Bool.{true, false}
use native.Mathlib.Omega.{arith}
use lib.ListN.{get_or}
use Rattle.lists.specs.Lists.{subset, rising, slice}
use Rattle.lists.proofs.Throughout.{subset_nil}
use Rattle.lists.proofs.Slices.{slice_past}
use Rattle.lists.proofs.Merging.{rising_next, merge_stop, merge_low, merge_same, merge_high}
use Rattle.words.specs.Merges.{Rising, Passed}

-- containment of the parts from i and j on decides that of the whole, and both rise
pub record Advancing (w : List ℕ) (a b c e i j : ℕ) : Type 0 where
  pub first_rises : rising (slice i b w) ≡ true
  pub second_rises : rising (slice j e w) ≡ true
  pub same : subset (slice i b w) (slice j e w) ≡ subset (slice a b w) (slice c e w)

module _ {w : List ℕ} {a b c e i j : ℕ} (m : Advancing w a b c e i j) where
  pub advancing_end : b ≤ i → true ≡ subset (slice a b w) (slice c e w)
  advancing_end past =
      let none = slice_past i b w past in
      sym (rw none (subset_nil (slice j e w))) ∙ m.same

  -- after the search for the first word of the first part
  module _ {r : ℕ} (s : Passed i b j e w r) (first : Rising a b w) (second : Rising c e w) (some : i < b) where
    same : subset (slice i b w) (slice r e w) ≡ subset (slice a b w) (slice c e w)
    same = s.same ∙ m.same

    pub advancing_stop : e ≤ r → false ≡ subset (slice a b w) (slice c e w)
    advancing_stop past = sym (merge_stop w i b r e first.within second.within some past) ∙ same

    pub advancing_other : r < e → (get_or w i 0 ≡ get_or w r 0 → ⊥) → false ≡ subset (slice a b w) (slice c e w)
    advancing_other found other =
        let low : get_or w i 0 < get_or w r 0 = omega (arith, s.stop found, other) in
        sym (merge_low w i b r e first.within second.within some found m.first_rises s.rise low) ∙ same

    pub advancing_same : r < e → get_or w i 0 ≡ get_or w r 0 → Advancing w a b c e (i + 1) (r + 1)
    advancing_same found h =
        record {
          first_rises = rising_next i b w some first.within m.first_rises;
          second_rises = rising_next r e w found second.within s.rise;
          same = sym (merge_same w i b r e first.within second.within some found m.first_rises s.rise h) ∙ same;
        }

-- the invariant of `skip_lower`
pub record Passing (w : List ℕ) (a b c e x j : ℕ) : Type 0 where
  pub word : x ≡ get_or w a 0
  pub rise : rising (slice j e w) ≡ true
  pub same : subset (slice a b w) (slice j e w) ≡ subset (slice a b w) (slice c e w)

module _ {w : List ℕ} {a b c e x j : ℕ} (s : Passing w a b c e x j) where
  pub passed : (j < e → x ≤ get_or w j 0) → Passed a b c e w j
  passed stop = record { stop = λ h. omega (arith, stop h, s.word); rise = s.rise; same = s.same }

  pub passing_next : a < b → Rising a b w → Rising c e w → j < e → get_or w j 0 < x → Passing w a b c e x (j + 1)
  passing_next some first second other h =
      record {
        word = s.word;
        rise = rising_next j e w other second.within s.rise;
        same =
            sym (merge_high w a b j e first.within second.within some other first.rise s.rise (omega (arith, s.word)))
            ∙ s.same;
      }
