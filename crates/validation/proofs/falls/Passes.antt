-- Numbers that are T or more, and falls at borders: place by place, as they are counted, and in bounds. The falls themselves are
-- in Falls.
use mathlib.Core.Path.{◌≡◌, refl}
use mathlib.Core.List.{List, [], ◌∷◌}
use mathlib.Core.Bool.{Bool, true, false, ◌&&◌}
use Prim.Native.Nat.{ℕ, ◌+◌, ◌-◌, ◌<◌, ◌≤◌}
use native.Mathlib.Omega.{arith}
use lib.Dec.{eqb, leb, ltb}
use lib.ListN.{length, get_or, drop, drop_of_length-le}
use Rattle.std.specs.Int.{from_bool}
use Rattle.std.proofs.lemmas.List.{drop_more}
use Rattle.lists.specs.Lists.{one, count, all, slice}
use Rattle.lists.proofs.Counting.{one_bound, count_append}
use Rattle.lists.proofs.Slices.{slice-split}
use Rattle.validation.specs.falls.Falls.{border_fall, border_falls}
use Rattle.validation.proofs.falls.Falls.{none_first}

-- a test as a number
pub number_one : (b : Bool) → from_bool b ≡ one b
number_one true = refl
number_one false = refl

-- no number is T or more exactly where all are below
pub high_none : (T : ℕ) (l : List ℕ) → eqb (count (leb T) l) 0 ≡ all (λ i. ltb i T) l
unfolding count all
high_none T [] = refl
high_none T (x ∷ xs) = none_first x T (count (leb T) xs) (all (λ i. ltb i T) xs) (high_none T xs)

-- the count of such numbers from place k on
module _ (T : ℕ) (list : List ℕ) (k : ℕ) where
  pub high_next : k < length list
      → count (leb T) (drop k list) ≡ one (leb T (get_or list k 0)) + count (leb T) (drop (k + 1) list)
  unfolding count
  high_next below = rw (drop_more list k 0 below)

  pub high_end : length list ≤ k → count (leb T) (drop k list) ≡ 0
  unfolding count
  high_end past = rw (drop_of_length-le list {i = k} past)

-- and of those of a part, cut in two at a place
pub high_cut : (T n : ℕ) (list : List ℕ) → n ≤ length list → (start mid : ℕ) → start ≤ mid → mid ≤ n
    → count (leb T) (slice start n list) ≡ count (leb T) (slice start mid list) + count (leb T) (slice mid n list)
high_cut T n list within start mid low high =
    rw (slice-split start mid n list low high (omega arith))
    (count_append (leb T) (slice start mid list) (slice mid n list))

-- the borders from place k on: the next place, and the end
module _ (n : ℕ) (ends list : List ℕ) (k start : ℕ) where
  pub borders_next : k < length ends
      → border_falls n start (drop k ends) list
      ≡ border_fall n start (get_or ends k 0) list + border_falls n (get_or ends k 0) (drop (k + 1) ends) list
  unfolding border_falls
  borders_next below = rw (drop_more ends k 0 below)

  pub borders_end : length ends ≤ k → border_falls n start (drop k ends) list ≡ 0
  unfolding border_falls
  borders_end past = rw (drop_of_length-le ends {i = k} past)

border_bound : (n start end : ℕ) (list : List ℕ) → border_fall n start end list ≤ 1
unfolding border_fall
border_bound n start end list =
    one_bound (ltb start end && (ltb end n && leb (get_or list end 0) (get_or list (end - 1) 0)))

pub borders_bound : (n start : ℕ) (ends list : List ℕ) → border_falls n start ends list ≤ length ends
unfolding border_falls
borders_bound n start [] list = omega arith
borders_bound n start (end ∷ ends) list = omega (arith, border_bound n start end list, borders_bound n end ends list)
