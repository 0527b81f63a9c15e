-- The index by item, for a caller that has no ranks: under the ranks 0 to T - 1 a good set in rank order is the set itself, and
-- the holders of a rank are the places of the sets that have it as an item.
use Prim.Native.Nat.{ℕ, ◌<◌}
use mathlib.Core.Path.{◌≡◌, sym, ap, subst, ◌∙◌}
use mathlib.Core.List.{List, []}
use mathlib.Core.Bool.{true, ◌&&◌}
use native.Mathlib.Omega.{arith}
use borrow.Author.Tests.{eqb-true, eq-eqb, ltb-true, lt-ltb}
use lib.Dec.{eqb, ltb, leb}
use lib.ListN.{length, get_or}
use Rattle.lists.specs.Lists.{all, any, keep, memb, rising, upto}
use Rattle.lists.proofs.Bools.{same_test, and_right, and_both}
use Rattle.lists.proofs.Throughout.{all_at, all_elim, any_intro, any_elim}
use Rattle.lists.proofs.Filtering.{keep_agree}
use Rattle.lists.proofs.Ranges.{length-range, get_d_upto, memb-upto}
use Rattle.lists.proofs.Rising.{rising_same}
use Rattle.sets.specs.Limits.{max_set_length}
use Rattle.sets.specs.Collections.{good_items}
use Rattle.sets.specs.Ordered.{is_permutation, ordered}
use Rattle.sets.proofs.Permutation.{permutation_make}
use Rattle.sets.proofs.Ordered.{memb-ordered, ordered-rising}
use Rattle.side_index.specs.Side.{holders_of}
use Rattle.side_index.proofs.Inverting.{good_below}

pub upto_permutation : (T : ℕ) → is_permutation T (upto T) ≡ true
upto_permutation T =
    permutation_make T (upto T) (length-range 0 T) (λ i below. omega (arith, get_d_upto T i 0 below))
    (λ i j less below same. omega (arith, get_d_upto T i 0 (omega arith), get_d_upto T j 0 below))

module _ (T : ℕ) (set : List ℕ) (good : good_items T set ≡ true) where
  below : all (λ i. ltb i T) set ≡ true
  below = good_below T set good

  item_low : (x : ℕ) → memb x set ≡ true → x < T
  item_low x m = ltb-true x T (all_elim (λ (i : ℕ). ltb i T) set below x m)

  same_members : (x : ℕ) → memb x (ordered T (upto T) set) ≡ memb x set
  same_members x =
      memb-ordered T (upto T) set x
      ∙ same_test (ltb x T && any (λ i. eqb (get_or (upto T) i 0) x) set) (memb x set)
      (λ both.
      any_elim (λ i. eqb (get_or (upto T) i 0) x) set (and_right (ltb x T) (any (λ i. eqb (get_or (upto T) i 0) x) set) both)
      (λ i m e.
      let same : i ≡ x = sym (get_d_upto T i 0 (item_low i m)) ∙ eqb-true (get_or (upto T) i 0) x e in
      subst (λ (y : ℕ). memb y set ≡ true) same m))
      (λ m.
      and_both (lt-ltb x T (item_low x m))
      (any_intro (λ i. eqb (get_or (upto T) i 0) x) set x m (eq-eqb (get_or (upto T) x 0) x (get_d_upto T x 0 (item_low x m)))))

  pub ordered_items : ordered T (upto T) set ≡ set
  ordered_items =
      rising_same (ordered T (upto T) set) set (ordered-rising T (upto T) set)
      (and_right (all (λ i. ltb i T) set) (rising set)
      (and_right (leb (length set) max_set_length) (all (λ i. ltb i T) set && rising set) good))
      same_members

pub holders_items : (T : ℕ) (sets : List (List ℕ)) → all (good_items T) sets ≡ true → (x : ℕ)
    → holders_of T (upto T) sets x ≡ keep (λ s. memb x (get_or sets s [])) (upto (length sets))
holders_items T sets good x =
    keep_agree (λ s. memb x (ordered T (upto T) (get_or sets s []))) (λ s. memb x (get_or sets s [])) (upto (length sets))
    (λ s there.
    ap (λ (l : List ℕ). memb x l)
    (ordered_items T (get_or sets s [])
    (all_at (good_items T) [] sets good s (ltb-true s (length sets) (sym (memb-upto (length sets) s) ∙ there)))))
