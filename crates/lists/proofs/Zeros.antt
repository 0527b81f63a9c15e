-- A list that is being filled with zeros from the front: an invariant with its start, step and end; and what stands in a list of
-- zeros.
use mathlib.Core.Path.{◌≡◌, refl, ap, ◌∙◌}
use mathlib.Core.List.{List, [], ◌++◌, append-nil}
use Prim.Native.Nat.{ℕ, zero, suc, ◌+◌, ◌<◌, ◌≤◌}
use native.Mathlib.Omega.{arith}
use lib.ListN.{length, get_or, set, drop, replicate, length-set, drop_of_length-le}
use borrow.Author.Fill.{fill_none, fill_more}

-- i of the n numbers are zeros, and the others are as they were
pub record Zeroed (was is : List ℕ) (i n : ℕ) : Type 0 where
  pub filled : is ≡ replicate i 0 ++ drop i was
  pub same : length is ≡ length was
  pub all : n ≡ length was
  pub within : i ≤ n

pub zeroed_start : (l : List ℕ) → Zeroed l l 0 (length l)
zeroed_start l = record { filled = fill_none l 0; same = refl; all = refl; within = omega arith }

pub zeroed_step : {was is : List ℕ} {i n : ℕ} → Zeroed was is i n → i < n → Zeroed was (set is i 0) (i + 1) n
zeroed_step {was} {is} {i} {n} z below =
    record {
      filled = ap (λ (l : List ℕ). set l i 0) z.filled ∙ fill_more i 0 was (omega arith);
      same = length-set is i 0 ∙ z.same;
      all = z.all;
      within = omega arith;
    }

pub zeroed_end : {was is : List ℕ} {i n : ℕ} → Zeroed was is i n → n ≤ i → is ≡ replicate (length was) 0
zeroed_end {was} {is} {i} {n} z past =
    let here : i ≡ length was = omega arith in
    let gone : drop i was ≡ [] = drop_of_length-le was {i = i} (omega arith) in
    z.filled ∙ rw (gone, append-nil, here)

pub get_d_zeros : (n k : ℕ) → ◌≡◌ {A = ℕ} (get_or (replicate n 0) k 0) 0
get_d_zeros zero k = refl
get_d_zeros (suc n) zero = refl
get_d_zeros (suc n) (suc k) = get_d_zeros n k
