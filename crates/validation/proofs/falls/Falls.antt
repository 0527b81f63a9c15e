-- Falls of a list: a list without one rises; the falls of a part of a list, number by number, and cut in two at a place: the
-- falls of a list are those of its pieces and the one at the cut.
use mathlib.Core.Path.{◌≡◌, refl}
use mathlib.Core.List.{List, [], ◌∷◌}
use mathlib.Core.Bool.{Bool, ◌&&◌}
use Prim.Native.Nat.{ℕ, zero, suc, ◌+◌, ◌-◌, ◌<◌, ◌≤◌}
use native.Mathlib.Nat.{zero-add}
use native.Mathlib.Omega.{arith}
use borrow.Author.Tests.{leb-true, leb-false, ltb-true, ltb-false, lt-ltb, le-ltb, ne_eqb}
use lib.Dec.{eqb, leb, ltb}
use lib.ListN.{length, get_or}
use Rattle.lists.specs.Lists.{one, rising, rising_after, slice}
use Rattle.lists.proofs.Bools.{by_test}
use Rattle.lists.proofs.Counting.{one_bound}
use Rattle.lists.proofs.Slices.{slice_next, slice_past}
use Rattle.validation.specs.falls.Falls.{falls_after, falls, border_fall}

-- a sum of tests that no number passes: the first does not, and none of the rest does
pub none_first : (x y n : ℕ) (rest : Bool) → eqb n 0 ≡ rest → eqb (one (leb y x) + n) 0 ≡ (ltb x y && rest)
none_first x y n rest same =
    by_test (leb y x)
    (λ e. rw (e, le-ltb x y (leb-true y x e)) (ne_eqb (1 + n) 0 (λ z. omega arith)))
    (λ e. rw (e, lt-ltb x y (leb-false y x e), zero-add n) same)

falls_after_none : (x : ℕ) (l : List ℕ) → eqb (falls_after x l) 0 ≡ rising_after x l
unfolding falls_after rising_after
falls_after_none x [] = refl
falls_after_none x (y ∷ ys) = none_first x y (falls_after y ys) (rising_after y ys) (falls_after_none y ys)

-- a list has no fall exactly where it rises
pub falls_none : (l : List ℕ) → eqb (falls l) 0 ≡ rising l
unfolding falls rising
falls_none [] = refl
falls_none (x ∷ xs) = falls_after_none x xs

falls_after_bound : (x : ℕ) (l : List ℕ) → falls_after x l ≤ length l
unfolding falls_after
falls_after_bound x [] = omega arith
falls_after_bound x (y ∷ ys) = omega (arith, one_bound (leb y x), falls_after_bound y ys)

pub falls_bound : (l : List ℕ) → falls l ≤ length l
unfolding falls
falls_bound [] = omega arith
falls_bound (x ∷ xs) = omega (arith, falls_after_bound x xs)

-- the falls from place e up to n
module _ (n : ℕ) (l : List ℕ) (within : n ≤ length l) where
  pub falls_next : (e : ℕ) → e + 1 < n
      → falls (slice e n l) ≡ one (leb (get_or l (e + 1) 0) (get_or l e 0)) + falls (slice (e + 1) n l)
  unfolding falls falls_after
  falls_next e below =
      rw (slice_next e n l (omega arith) within, slice_next (e + 1) n l below within)

  pub falls_end : (e : ℕ) → n ≤ e + 1 → falls (slice e n l) ≡ 0
  unfolding falls falls_after
  falls_end e past =
      by_test (ltb e n)
      (λ b. rw (slice_next e n l (ltb-true e n b) within, slice_past (e + 1) n l past))
      (λ b. rw (slice_past e n l (ltb-false e n b)))

  -- the same told by the later of the two numbers
  pub falls_before : (e : ℕ) → 1 ≤ e → e < n
      → falls (slice (e - 1) n l) ≡ one (leb (get_or l e 0) (get_or l (e - 1) 0)) + falls (slice (e + 1 - 1) n l)
  falls_before e some below =
      let here : e - 1 + 1 ≡ e = omega arith in
      let next : e + 1 - 1 ≡ e = omega arith in
      rw next (rw here at (falls_next (e - 1) (omega arith)))

-- a part with a number before its border
border_inner : (n start mid : ℕ) (l : List ℕ) → start < mid
    → border_fall n start mid l ≡ one (ltb mid n && leb (get_or l mid 0) (get_or l (mid - 1) 0))
unfolding border_fall
border_inner n start mid l below = rw (lt-ltb start mid below)

border_empty : (n start : ℕ) (l : List ℕ) → border_fall n start start l ≡ 0
unfolding border_fall
border_empty n start l = rw (le-ltb start start (omega arith))

module _ (n : ℕ) (l : List ℕ) (within : n ≤ length l) where
  -- the piece before the cut has one number
  cut_one : (start : ℕ) → start + 1 ≤ n
      → falls (slice start n l)
      ≡ falls (slice start (start + 1) l) + (border_fall n start (start + 1) l + falls (slice (start + 1) n l))
  cut_one start high =
      let before : start + 1 - 1 ≡ start = omega arith in
      let border = border_inner n start (start + 1) l (omega arith) in
      by_test (ltb (start + 1) n)
      (λ b.
      let here : border_fall n start (start + 1) l ≡ one (leb (get_or l (start + 1) 0) (get_or l start 0)) = rw (b, before) at border in
      omega (arith, none, here, falls_next n l within start (ltb-true (start + 1) n b)))
      (λ b.
      let past : n ≤ start + 1 = ltb-false (start + 1) n b in
      let here : border_fall n start (start + 1) l ≡ 0 = rw b at border in
      omega (arith, none, here, falls_end n l within start past, falls_end n l within (start + 1) (omega arith)))
    where
      none : falls (slice start (start + 1) l) ≡ 0
      none = falls_end (start + 1) l (omega arith) start (omega arith)

  cut_at : (d start mid : ℕ) → start + d ≡ mid → mid ≤ n
      → falls (slice start n l) ≡ falls (slice start mid l) + (border_fall n start mid l + falls (slice mid n l))
  cut_at zero start mid there high =
      let same : mid ≡ start = omega arith in
      rw same (omega (arith, border_empty n start l, falls_end start l (omega arith) start (omega arith)))
  cut_at (suc zero) start mid there high =
      let same : mid ≡ start + 1 = omega arith in
      rw same (cut_one start (omega arith))
  cut_at (suc (suc d)) start mid there high =
      omega (
        arith,
        falls_next n l within start (omega arith),
        falls_next mid l (omega arith) start (omega arith),
        border_inner n start mid l (omega arith),
        border_inner n (start + 1) mid l (omega arith),
        cut_at (suc d) (start + 1) mid (omega arith) high,
      )

  pub falls_cut : (start mid : ℕ) → start ≤ mid → mid ≤ n
      → falls (slice start n l) ≡ falls (slice start mid l) + (border_fall n start mid l + falls (slice mid n l))
  falls_cut start mid low high = cut_at (mid - start) start mid (omega arith) high
