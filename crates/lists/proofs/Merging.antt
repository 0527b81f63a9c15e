-- Merges of two rising lists: what one comparison of their first numbers decides of containment, for two lists and for two parts
-- of one.
use Prim.Native.Nat.{ℕ, ◌+◌, ◌≤◌, ◌<◌}
use mathlib.Core.Path.{◌≡◌, refl, ap₂}
use mathlib.Core.List.{List, [], ◌∷◌}
use mathlib.Core.Bool.{Bool, true, false, ◌&&◌}
use native.Mathlib.Omega.{arith}
use lib.Dec.{ltb}
use lib.ListN.{length, get_or}
use borrow.Author.Tests.{lt-ltb, ltb-true, eq-eqb, ne_eqb}
use Rattle.lists.specs.Lists.{all, memb, subset, slice, rising_after, rising}
use Rattle.lists.proofs.Bools.{and_left, and_right, and_both, refuted}
use Rattle.lists.proofs.Throughout.{subset_none}
use Rattle.lists.proofs.Slices.{slice_past, slice_next}
use Rattle.lists.proofs.Rising.{rising_least, rising_tail, rising_after_lower}

-- a lower number is not among rising ones
pub memb_low : (x y : ℕ) (ys : List ℕ) → x < y → rising (y ∷ ys) ≡ true → memb x (y ∷ ys) ≡ false
memb_low x y ys h r = refuted (memb x (y ∷ ys)) (λ m. let least : y ≤ x = rising_least y ys r x m in omega arith)

-- a number that all are above does not bear on membership
pub memb_high : (x y : ℕ) (ys : List ℕ) → y < x → memb x (y ∷ ys) ≡ memb x ys
unfolding memb
memb_high x y ys h = rw (ne_eqb x y (λ e. omega arith))

-- a lower number in front does not bear on containment of rising numbers
module _ (y : ℕ) (ys : List ℕ) where
  pub subset_past : (xs : List ℕ) → rising_after y xs ≡ true → subset xs (y ∷ ys) ≡ subset xs ys
  unfolding all rising_after
  subset_past [] r = refl
  subset_past (x ∷ xs) r =
      let above : y < x = ltb-true y x (and_left (ltb y x) (rising_after x xs) r) in
      let later = rising_after_lower y x xs (omega arith) (and_right (ltb y x) (rising_after x xs) r) in
      ap₂ (λ (a b : Bool). a && b) (memb_high x y ys above) (subset_past xs later)

after_lower : (y x : ℕ) (xs : List ℕ) → y < x → rising (x ∷ xs) ≡ true → rising_after y (x ∷ xs) ≡ true
unfolding rising_after rising
after_lower y x xs h r = and_both (lt-ltb y x h) r

-- one comparison of the first numbers of two rising lists
module _ (x : ℕ) (xs : List ℕ) (y : ℕ) (ys : List ℕ) where
  pub subset_low : x < y → rising (y ∷ ys) ≡ true → subset (x ∷ xs) (y ∷ ys) ≡ false
  unfolding all
  subset_low h r = rw (memb_low x y ys h r)

  pub subset_same : x ≡ y → rising (x ∷ xs) ≡ true → subset (x ∷ xs) (y ∷ ys) ≡ subset xs ys
  unfolding all memb rising
  subset_same e r = rw (eq-eqb x y e) (subset_past y ys xs (rw e at r))

  pub subset_high : y < x → rising (x ∷ xs) ≡ true → subset (x ∷ xs) (y ∷ ys) ≡ subset (x ∷ xs) ys
  subset_high h r = subset_past y ys (x ∷ xs) (after_lower y x xs h r)

-- what is left of a rising part rises
pub rising_next : (f t : ℕ) (l : List ℕ) → f < t → t ≤ length l → rising (slice f t l) ≡ true → rising (slice (f + 1) t l) ≡ true
rising_next f t l h k r = rising_tail (get_or l f 0) (slice (f + 1) t l) (rw (slice_next f t l h k) at r)

-- the merge of two rising parts of one list, the first from i up to b and the second from j up to e
module _ (w : List ℕ) (i b j e : ℕ) (left_in : b ≤ length w) (rightIn : e ≤ length w) where
  pub merge_stop : i < b → e ≤ j → subset (slice i b w) (slice j e w) ≡ false
  merge_stop h none = rw (slice_next i b w h left_in, slice_past j e w none) (subset_none (get_or w i 0) (slice (i + 1) b w))

  module _ (more : i < b) (other : j < e) (rise : rising (slice i b w) ≡ true) (rises : rising (slice j e w) ≡ true) where
    head : rising (get_or w i 0 ∷ slice (i + 1) b w) ≡ true
    head = rw (slice_next i b w more left_in) at rise

    heads : rising (get_or w j 0 ∷ slice (j + 1) e w) ≡ true
    heads = rw (slice_next j e w other rightIn) at rises

    pub merge_low : get_or w i 0 < get_or w j 0 → subset (slice i b w) (slice j e w) ≡ false
    merge_low h =
        rw (slice_next i b w more left_in, slice_next j e w other rightIn)
        (subset_low (get_or w i 0) (slice (i + 1) b w) (get_or w j 0) (slice (j + 1) e w) h heads)

    pub merge_same : get_or w i 0 ≡ get_or w j 0 → subset (slice i b w) (slice j e w) ≡ subset (slice (i + 1) b w) (slice (j + 1) e w)
    merge_same h =
        rw (slice_next i b w more left_in, slice_next j e w other rightIn)
        (subset_same (get_or w i 0) (slice (i + 1) b w) (get_or w j 0) (slice (j + 1) e w) h head)

    pub merge_high : get_or w j 0 < get_or w i 0 → subset (slice i b w) (slice j e w) ≡ subset (slice i b w) (slice (j + 1) e w)
    merge_high h =
        rw (slice_next i b w more left_in, slice_next j e w other rightIn)
        (subset_high (get_or w i 0) (slice (i + 1) b w) (get_or w j 0) (slice (j + 1) e w) h head)
