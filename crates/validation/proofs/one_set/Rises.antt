-- A strictly rising list of numbers below T, tested in one pass from the front: the least that the next number may be is one
-- more than the number before it.
use mathlib.Core.Path.{◌≡◌, refl, sym, ap, ◌∙◌}
use mathlib.Core.List.{List, [], ◌∷◌}
use mathlib.Core.Bool.{Bool, true, false, ◌&&◌, and_assoc}
use Prim.Native.Nat.{ℕ, suc, ◌+◌, ◌<◌, ◌≤◌}
use native.Mathlib.Numerals.{add-one}
use borrow.Author.Tests.{lt-leb, le-leb, lt-ltb, le-ltb}
use lib.Dec.{leb, ltb, leb-zero}
use lib.ListN.{length, get_or, drop, drop_of_length-le}
use Rattle.std.proofs.lemmas.List.{drop_more}
use Rattle.lists.specs.Lists.{all, rising, rising_after}

-- whether the numbers are below T, the first at least least, and each later one above the one before
unfoldable pub rises_from : ℕ → ℕ → List ℕ → Bool
rises_from T least [] = true
rises_from T least (x ∷ xs) = (leb least x && ltb x T) && rises_from T (suc x) xs

regroup : (a b c d : Bool) → ((a && b) && (c && d)) ≡ ((b && c) && (a && d))
regroup true true c d = refl
regroup true false c d = refl
regroup false true true d = refl
regroup false true false d = refl
regroup false false c d = refl

never : (b r : Bool) → ((b && false) && r) ≡ false
never true r = refl
never false r = refl

pub rises_after : (T x : ℕ) (l : List ℕ) → rises_from T (suc x) l ≡ (all (λ i. ltb i T) l && rising_after x l)
unfolding rises_from all rising_after
rises_after T x [] = refl
rises_after T x (y ∷ ys) =
    ap (λ (b : Bool). (ltb x y && ltb y T) && b) (rises_after T y ys)
    ∙ regroup (ltb x y) (ltb y T) (all (λ i. ltb i T) ys) (rising_after y ys)

pub rises_all : (T : ℕ) (l : List ℕ) → rises_from T 0 l ≡ (all (λ i. ltb i T) l && rising l)
unfolding rises_from all rising
rises_all T [] = refl
rises_all T (x ∷ xs) =
    rw (leb-zero x, rises_after T x xs) (sym (and_assoc (ltb x T) (all (λ i. ltb i T) xs) (rising_after x xs)))

-- the test from place i on, where x stands
module _ (T i : ℕ) (l : List ℕ) (below : i < length l) where
  pub rises_low : (least : ℕ) → get_or l i 0 < least → rises_from T least (drop i l) ≡ false
  unfolding rises_from
  rises_low least low = rw (drop_more l i 0 below, lt-leb least (get_or l i 0) low)

  pub rises_high : (least : ℕ) → T ≤ get_or l i 0 → rises_from T least (drop i l) ≡ false
  unfolding rises_from
  rises_high least high =
      rw (drop_more l i 0 below, le-ltb (get_or l i 0) T high)
      (never (leb least (get_or l i 0)) (rises_from T (suc (get_or l i 0)) (drop (i + 1) l)))

  pub rises_next : (least : ℕ) → least ≤ get_or l i 0 → get_or l i 0 < T
      → rises_from T least (drop i l) ≡ rises_from T (get_or l i 0 + 1) (drop (i + 1) l)
  unfolding rises_from
  rises_next least low high =
      rw (drop_more l i 0 below, le-leb least (get_or l i 0) low, lt-ltb (get_or l i 0) T high, add-one (get_or l i 0))

pub rises_end : (T i least : ℕ) (l : List ℕ) → length l ≤ i → rises_from T least (drop i l) ≡ true
unfolding rises_from
rises_end T i least l past = rw (drop_of_length-le l {i = i} past)
