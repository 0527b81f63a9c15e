-- Containment of two rising lists by their last numbers, and what one comparison of the last words decides for two rising parts.
use Prim.Native.Nat.{ℕ, suc, ◌-◌, ◌≤◌, ◌<◌}
use mathlib.Core.Path.{◌≡◌, refl, sym, ap, ap₂, ◌∙◌}
use mathlib.Core.List.{List, [], ◌∷◌, ◌++◌}
use mathlib.Core.Bool.{Bool, true, false, ◌&&◌, and-true, and-false, and_assoc, or-false, or-true}
use native.Mathlib.Omega.{arith}
use lib.Dec.{ltb}
use lib.ListN.{length, get_or}
use borrow.Author.Tests.{lt-ltb, ltb-true, eq-eqb, ne_eqb}
use Rattle.lists.specs.Lists.{all, memb, subset, rising, rising_after, slice}
use Rattle.lists.proofs.Bools.{and_left, and_right, and_both, refuted}
use Rattle.lists.proofs.Membership.{memb_append}
use Rattle.lists.proofs.Throughout.{all_elim, all_append, all_weaken}
use Rattle.lists.proofs.Slices.{slice_snoc}

-- a rising list without its last number rises, and lies below it
pub record Front (xs : List ℕ) (x : ℕ) : Type 0 where
  pub rise : rising xs ≡ true
  pub below : all (λ z. ltb z x) xs ≡ true

record FrontAfter (y : ℕ) (xs : List ℕ) (x : ℕ) : Type 0 where
  rise : rising_after y xs ≡ true
  above : y < x
  below : all (λ z. ltb z x) xs ≡ true

front_after : (y : ℕ) (xs : List ℕ) (x : ℕ) → rising_after y (xs ++ (x ∷ [])) ≡ true → FrontAfter y xs x
unfolding rising_after all
front_after y [] x r = record { rise = refl; above = ltb-true y x (and_left (ltb y x) true r); below = refl }
front_after y (z ∷ zs) x r =
    let rest = front_after z zs x (and_right (ltb y z) (rising_after z (zs ++ (x ∷ []))) r) in
    let first = and_left (ltb y z) (rising_after z (zs ++ (x ∷ []))) r in
    record {
      rise = and_both first rest.rise;
      above = omega (arith, ltb-true y z first, rest.above);
      below = and_both (lt-ltb z x rest.above) rest.below;
    }

front : (xs : List ℕ) (x : ℕ) → rising (xs ++ (x ∷ [])) ≡ true → Front xs x
unfolding rising all
front [] x r = record { rise = refl; below = refl }
front (y ∷ ys) x r =
    let f = front_after y ys x r in
    record { rise = f.rise; below = and_both (lt-ltb y x f.above) f.below }

-- a last number above all of a list does not bear on its containment
memb_other : (x y : ℕ) (ys : List ℕ) → x < y → memb x (ys ++ (y ∷ [])) ≡ memb x ys
unfolding memb
memb_other x y ys h =
    memb_append x ys (y ∷ []) ∙ rw (ne_eqb x y (λ e. omega arith), or-false (memb x ys))

memb_last : (x : ℕ) (ys : List ℕ) → memb x (ys ++ (x ∷ [])) ≡ true
unfolding memb
memb_last x ys = memb_append x ys (x ∷ []) ∙ rw (eq-eqb x x refl, or-true (memb x ys))

subset_below : (xs ys : List ℕ) (y : ℕ) → all (λ z. ltb z y) xs ≡ true → subset xs (ys ++ (y ∷ [])) ≡ subset xs ys
unfolding all
subset_below [] ys y low = refl
subset_below (x ∷ xs) ys y low =
    ap₂ (λ (p q : Bool). p && q) (memb_other x y ys (ltb-true x y (and_left (ltb x y) (all (λ z. ltb z y) xs) low)))
    (subset_below xs ys y (and_right (ltb x y) (all (λ z. ltb z y) xs) low))

-- the last number is looked for
pub subset_last : (xs ys : List ℕ) (x : ℕ) → subset (xs ++ (x ∷ [])) ys ≡ (subset xs ys && memb x ys)
unfolding all
subset_last [] ys x = and-true (memb x ys)
subset_last (z ∷ xs) ys x =
    ap (λ (b : Bool). memb z ys && b) (subset_last xs ys x) ∙ sym (and_assoc (memb z ys) (subset xs ys) (memb x ys))

-- a part by its last word
pub part_last : (a b : ℕ) (w : List ℕ) → a < b → b ≤ length w → slice a b w ≡ slice a (b - 1) w ++ (get_or w (b - 1) 0 ∷ [])
part_last a b w some within =
    let here : b ≡ suc (b - 1) = omega arith in
    ap (λ (n : ℕ). slice a n w) here ∙ slice_snoc 0 a (b - 1) w (omega arith) (omega arith)

module _ (w : List ℕ) (a b : ℕ) (within : b ≤ length w) (some : a < b) (rise : rising (slice a b w) ≡ true) where
  pub front_of : Front (slice a (b - 1) w) (get_or w (b - 1) 0)
  front_of = front (slice a (b - 1) w) (get_or w (b - 1) 0) (rw (part_last a b w some within) at rise)

  -- all words are below what is above the last
  part_below : (v : ℕ) → get_or w (b - 1) 0 < v → all (λ z. ltb z v) (slice a b w) ≡ true
  unfolding all
  part_below v h =
      let x = get_or w (b - 1) 0 in
      ap (all (λ z. ltb z v)) (part_last a b w some within)
      ∙ all_append (λ (z : ℕ). ltb z v) (slice a (b - 1) w) (x ∷ [])
      (all_weaken (λ (z : ℕ). ltb z x) (λ (z : ℕ). ltb z v) (slice a (b - 1) w)
      (λ z low. lt-ltb z v (omega (arith, ltb-true z x low))) front_of.below)
      (and_both (lt-ltb x v h) refl)

-- one comparison of the last words of two rising parts
module _ (w : List ℕ) (a b c e : ℕ) (first_in : b ≤ length w) (second_in : e ≤ length w) (some : a < b) (other : c < e)
    (rise : rising (slice a b w) ≡ true) (rises : rising (slice c e w) ≡ true) where
  pub last_high : get_or w (b - 1) 0 < get_or w (e - 1) 0
      → subset (slice a b w) (slice c e w) ≡ subset (slice a b w) (slice c (e - 1) w)
  last_high h =
      ap (subset (slice a b w)) (part_last c e w other second_in)
      ∙ subset_below (slice a b w) (slice c (e - 1) w) (get_or w (e - 1) 0)
      (part_below w a b first_in some rise (get_or w (e - 1) 0) h)

  pub last_low : get_or w (e - 1) 0 < get_or w (b - 1) 0 → subset (slice a b w) (slice c e w) ≡ false
  last_low h =
      let x = get_or w (b - 1) 0 in
      let absent : memb x (slice c e w) ≡ false =
      refuted (memb x (slice c e w))
      (λ m.
      let low : x < x =
      ltb-true x x (all_elim (λ (z : ℕ). ltb z x) (slice c e w) (part_below w c e second_in other rises x h) x m) in
      omega arith)
      in
      ap (λ (l : List ℕ). subset l (slice c e w)) (part_last a b w some first_in)
      ∙ subset_last (slice a (b - 1) w) (slice c e w) x
      ∙ ap (λ (p : Bool). subset (slice a (b - 1) w) (slice c e w) && p) absent
      ∙ and-false (subset (slice a (b - 1) w) (slice c e w))

  pub last_same : get_or w (b - 1) 0 ≡ get_or w (e - 1) 0
      → subset (slice a b w) (slice c e w) ≡ subset (slice a (b - 1) w) (slice c (e - 1) w)
  last_same h =
      let x = get_or w (b - 1) 0 in
      let xs = slice a (b - 1) w in
      let ys = slice c (e - 1) w in
      let second : slice c e w ≡ ys ++ (x ∷ []) =
      part_last c e w other second_in ∙ ap (λ (y : ℕ). ys ++ (y ∷ [])) (sym h) in
      ap₂ (λ (k l : List ℕ). subset k l) (part_last a b w some first_in) second
      ∙ subset_last xs (ys ++ (x ∷ [])) x
      ∙ ap₂ (λ (p q : Bool). p && q) (subset_below xs ys x (front_of w a b first_in some rise).below) (memb_last x ys)
      ∙ and-true (subset xs ys)
