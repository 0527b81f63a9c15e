-- Containment of two rising parts, the last word first: the invariants of `search_down` and `skip_higher`, with their steps and
-- ends.
use Prim.Native.Nat.{ℕ, ◌+◌, ◌-◌, ◌≤◌, ◌<◌}
use mathlib.Core.Path.{◌≡◌, sym, subst, ap₂, ◌∙◌}
use mathlib.Core.List.{List, []}
use mathlib.Core.Bool.{true, false, and-false}
use native.Mathlib.Omega.{arith}
use lib.ListN.{length, get_or}
use Rattle.lists.specs.Lists.{memb, subset, rising, slice}
use Rattle.lists.proofs.Throughout.{subset_nil}
use Rattle.lists.proofs.Slices.{slice_past}
use Rattle.words.specs.Merges.{Rising, Skipped}
use Rattle.words.proofs.Lasts.{subset_last, part_last, front_of, last_high, last_low, last_same}

-- containment of the parts up to i and j decides that of the whole, and both rise
pub record Trimming (w : List ℕ) (a b c e i j : ℕ) : Type 0 where
  pub first : i ≤ b
  pub second : j ≤ e
  pub first_rises : rising (slice a i w) ≡ true
  pub second_rises : rising (slice c j w) ≡ true
  pub same : subset (slice a i w) (slice c j w) ≡ subset (slice a b w) (slice c e w)

module _ {w : List ℕ} {a b c e i j : ℕ} (m : Trimming w a b c e i j) where
  pub trimming_end : i ≤ a → true ≡ subset (slice a b w) (slice c e w)
  trimming_end past =
      let none = slice_past a i w past in
      sym (rw none (subset_nil (slice c j w))) ∙ m.same

  -- the first part up to its last word, which is at i - 1
  pub trimming_rises : Rising a b w → a < i → Rising a (i - 1 + 1) w
  trimming_rises first some =
      let end : i - 1 + 1 ≡ i = omega arith in
      record { within = omega (arith, m.first, first.within); rise = rw end m.first_rises }

  -- after the search for that word
  module _ {r : ℕ} (found_at : Skipped a (i - 1 + 1) c j w r) (first : Rising a b w) (second : Rising c e w) (some : a < i) where
    s : Skipped a i c j w r
    s = let end : i - 1 + 1 ≡ i = omega arith in subst (λ (n : ℕ). Skipped a n c j w r) end found_at

    first_in : i ≤ length w
    first_in = omega (arith, m.first, first.within)

    second_in : r ≤ length w
    second_in = omega (arith, s.high, m.second, second.within)

    same : subset (slice a i w) (slice c r w) ≡ subset (slice a b w) (slice c e w)
    same = s.same ∙ m.same

    pub trimming_stop : r ≤ c → false ≡ subset (slice a b w) (slice c e w)
    unfolding memb
    trimming_stop past =
        sym
        (ap₂ (λ (k l : List ℕ). subset k l) (part_last a i w some first_in) (slice_past c r w past)
        ∙ subset_last (slice a (i - 1) w) [] (get_or w (i - 1) 0)
        ∙ and-false (subset (slice a (i - 1) w) []))
        ∙ same

    pub trimming_other : c < r → (get_or w (i - 1) 0 ≡ get_or w (r - 1) 0 → ⊥) → false ≡ subset (slice a b w) (slice c e w)
    trimming_other found other =
        let low : get_or w (r - 1) 0 < get_or w (i - 1) 0 = omega (arith, s.stop found, other) in
        sym (last_low w a i c r first_in second_in some found m.first_rises s.rise low) ∙ same

    pub trimming_same : c < r → get_or w (i - 1) 0 ≡ get_or w (r - 1) 0 → Trimming w a b c e (i - 1) (r - 1)
    trimming_same found h =
        record {
          first = omega (arith, m.first);
          second = omega (arith, s.high, m.second);
          first_rises = (front_of w a i first_in some m.first_rises).rise;
          second_rises = (front_of w c r second_in found s.rise).rise;
          same = sym (last_same w a i c r first_in second_in some found m.first_rises s.rise h) ∙ same;
        }

-- the invariant of `skip_higher`
pub record Skipping (w : List ℕ) (a b c e x j : ℕ) : Type 0 where
  pub high : j ≤ e
  pub word : x ≡ get_or w (b - 1) 0
  pub rise : rising (slice c j w) ≡ true
  pub same : subset (slice a b w) (slice c j w) ≡ subset (slice a b w) (slice c e w)

module _ {w : List ℕ} {a b c e x j : ℕ} (s : Skipping w a b c e x j) where
  pub skipped : (c < j → get_or w (j - 1) 0 ≤ x) → Skipped a b c e w j
  skipped stop =
      record { high = s.high; stop = λ h. omega (arith, stop h, s.word); rise = s.rise; same = s.same }

  pub skipping_next : a < b → Rising a b w → Rising c e w → c < j → x < get_or w (j - 1) 0 → Skipping w a b c e x (j - 1)
  skipping_next some first second other h =
      let within : j ≤ length w = omega (arith, s.high, second.within) in
      record {
        high = omega (arith, s.high);
        word = s.word;
        rise = (front_of w c j within other s.rise).rise;
        same =
            sym (last_high w a b c j first.within within some other first.rise s.rise (omega (arith, s.word)))
            ∙ s.same;
      }
