-- What is found of the second of two rising parts in the first, or kept of it by the flags of the first, is what they share.
use Prim.Native.Nat.{ℕ, ◌-◌, ◌≤◌}
use mathlib.Core.Path.{◌≡◌, sym, ap, ◌∙◌}
use mathlib.Core.List.{List}
use mathlib.Core.Bool.{true, and_comm}
use native.Mathlib.Omega.{arith}
use lib.Dec.{ltb}
use lib.ListN.{length, take, drop}
use borrow.Author.Tests.{ltb-true}
use Rattle.lists.specs.Lists.{all, keep, memb, rising, slice}
use Rattle.lists.specs.Parts.{Changed}
use Rattle.lists.proofs.Filtering.{keep_same_where, memb-keep}
use Rattle.lists.proofs.Rising.{rising-keep, rising_same}
use Rattle.lists.proofs.Slices.{slice_from, frame-slice}
use Rattle.words.specs.Merges.{Rising}
use Rattle.words.specs.flags.Flags.{Below, Flagged, is_flagged, Kept}
use Rattle.words.proofs.flags.Flagging.{flag_tells, flagged_same}
use Rattle.words.specs.shared.Sharing.{Intersected}

-- what two rising lists share is the same, taken from either
pub share_swap : (xs ys : List ℕ) → rising xs ≡ true → rising ys ≡ true
    → keep (λ s. memb s xs) ys ≡ keep (λ s. memb s ys) xs
share_swap xs ys rx ry =
    rising_same (keep (λ s. memb s xs) ys) (keep (λ s. memb s ys) xs) (rising-keep (λ s. memb s xs) ys ry)
    (rising-keep (λ s. memb s ys) xs rx)
    (λ s.
    memb-keep (λ x. memb x xs) ys s ∙ and_comm (memb s ys) (memb s xs) ∙ sym (memb-keep (λ y. memb y ys) xs s))

-- the words of the second part that are among those of the first
pub found_shared : {a b c e out : ℕ} {w w' : List ℕ} {r : ℕ} → Rising a b w → Rising c e w
    → Kept (λ s. memb s (slice a b w)) c e out w w' r → Intersected a b c e out w w' r
found_shared {a} {b} {c} {e} {w = w} first second k =
    record {
      changed = k.changed;
      low = k.low;
      high = k.high;
      is = k.is ∙ share_swap (slice a b w) (slice c e w) first.rise second.rise;
    }

-- the words of the second part that are kept by the flags of the first
pub kept_shared : {a b c e out : ℕ} {w w' flags : List ℕ} {r : ℕ} → Rising a b w → Rising c e w → Below (length flags) c e w
    → Flagged (λ s. memb s (slice a b w)) flags → Kept (is_flagged flags) c e out w w' r → Intersected a b c e out w w' r
kept_shared {a} {b} {c} {e} {out} {w} {w'} {flags} {r} first second places f k =
    record {
      changed = k.changed;
      low = k.low;
      high = k.high;
      is =
          k.is
          ∙ keep_same_where (λ s. ltb s (length flags)) (is_flagged flags) (λ s. memb s (slice a b w)) (slice c e w) places.below
          (λ s low. flag_tells f s (ltb-true s (length flags) low))
          ∙ share_swap (slice a b w) (slice c e w) first.rise second.rise;
    }

-- a part below what was written is as it was: its words have their flags still, and these are known
module _ (a : ℕ) {b out hi : ℕ} {w w' : List ℕ} (low : b ≤ out) (changed : Changed out hi w w') where
  part_same : slice a b w' ≡ slice a b w
  part_same = frame-slice a b out w w' low changed.low

  pub below_changed : {bound : ℕ} → Below bound a b w → Below bound a b w'
  below_changed {bound} p =
      record {
        order = p.order;
        within = omega (arith, p.within, changed.size);
        below = ap (all (λ s. ltb s bound)) part_same ∙ p.below;
      }

  pub flagged_changed : {flags : List ℕ} → Flagged (λ s. memb s (slice a b w)) flags
      → Flagged (λ s. memb s (take (b - a) (drop a w'))) flags
  flagged_changed f = flagged_same f (λ s. ap (memb s) (sym part_same ∙ slice_from a b w'))
