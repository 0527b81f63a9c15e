-- Lists written into a longer one: stores one after the other; and a region that is being filled from its beginning, the
-- invariant of the loops that write one list behind a place, with its start, its steps (one element, or a run written by a
-- callee) and its end.
use mathlib.Core.Path.{◌≡◌, refl, sym, ap, subst, ◌∙◌}
use mathlib.Core.List.{List, [], ◌∷◌, ◌++◌, append-nil, append_assoc}
use Prim.Native.Nat.{ℕ, suc, ◌+◌, ◌<◌, ◌≤◌}
use native.Mathlib.Numerals.{add-one}
use native.Mathlib.Nat.{add-zero}
use native.Mathlib.Omega.{arith}
use lib.ListN.{length, get_or, take, drop, set, length-set, drop_of_length-le}
use lib.Seq.{take-set-le, drop-cons, sets, sets-eq}
use Rattle.lists.specs.Lists.{slice}
use Rattle.lists.proofs.Slices.{slice_none, slice-set_end}

pub sets_append : (w : List ℕ) (at : ℕ) (a b : List ℕ) → sets w at (a ++ b) ≡ sets (sets w at a) (at + length a) b
sets_append w at [] b = rw (add-zero at)
sets_append w at (x ∷ a) b =
    let next : suc at + length a ≡ at + suc (length a) = omega arith in
    sets_append (set w at x) (suc at) a b ∙ ap (λ (n : ℕ). sets (sets (set w at x) (suc at) a) n b) next

-- the same, the first run's length known
pub sets_then : (w : List ℕ) (at : ℕ) (a b : List ℕ) (n : ℕ) → length a ≡ n → sets w at (a ++ b) ≡ sets (sets w at a) (at + n) b
sets_then w at a b n e = sets_append w at a b ∙ ap (λ (k : ℕ). sets (sets w at a) (at + k) b) e

-- what is stored from the beginning on stands in front
pub sets_front : (list w : List ℕ) → length list ≤ length w → sets w 0 list ≡ list ++ drop (length list) w
sets_front list w room =
    let from_zero : 0 + length list ≡ length list = omega arith in
    sets-eq list w 0 (omega arith) ∙ ap (λ (n : ℕ). list ++ drop n w) from_zero

-- from base on i elements of `all` are written and `rest` is left; nothing below base changed
pub record Filling (base i : ℕ) (rest all was is : List ℕ) : Type 0 where
  pub frame : take base is ≡ take base was
  pub size : length is ≡ length was
  pub so_far : slice base (base + i) is ++ rest ≡ all

pub filling_start : (base : ℕ) (all w : List ℕ) → Filling base 0 all all w w
filling_start base all w =
    record { frame = refl; size = refl; so_far = rw (add-zero base, slice_none base w) }

module _ {base i : ℕ} {rest all was is : List ℕ} where
  pub filling_step : (v : ℕ) → Filling base i (v ∷ rest) all was is → base + i < length is
      → Filling base (i + 1) rest all was (set is (base + i) v)
  filling_step v f below =
      let there : base + (i + 1) ≡ suc (base + i) = omega arith in
      let snoc = slice-set_end base (base + i) is v (omega arith) below in
      record {
        frame = take-set-le base is (base + i) v (omega arith) ∙ f.frame;
        size = length-set is (base + i) v ∙ f.size;
        so_far = rw (there, snoc, append_assoc (slice base (base + i) is) (v ∷ []) rest) f.so_far;
      }

pub filling_end : {base i : ℕ} {all was is : List ℕ} → Filling base i [] all was is → slice base (base + i) is ≡ all
filling_end {base} {i} {all} {was} {is} f = sym (append-nil (slice base (base + i) is)) ∙ f.so_far

-- the same where the list to be written is known by place: what is left is `drop i all`
module _ {base i : ℕ} {all was is : List ℕ} where
  pub filling_next : (v : ℕ) → Filling base i (drop i all) all was is → i < length all → base + i < length is → v ≡ get_or all i 0
      → Filling base (i + 1) (drop (i + 1) all) all was (set is (base + i) v)
  filling_next v f more below e =
      subst (λ (j : ℕ). Filling base (i + 1) (drop j all) all was (set is (base + i) v)) (sym (add-one i))
      (filling_step v
      (subst (λ (l : List ℕ). Filling base i l all was is)
      (drop-cons all i 0 more ∙ ap (λ (x : ℕ). x ∷ drop (suc i) all) (sym e)) f)
      below)

  pub filling_all : (n : ℕ) → Filling base i (drop i all) all was is → n ≡ length all → i ≡ n → slice base (base + n) is ≡ all
  filling_all n f long here =
      let none : drop i all ≡ [] = drop_of_length-le all {i = i} (omega arith) in
      subst (λ (k : ℕ). slice base (base + k) is ≡ all) here
      (filling_end (subst (λ (l : List ℕ). Filling base i l all was is) none f))
