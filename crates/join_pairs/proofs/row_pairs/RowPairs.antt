-- The pairs of one left set with a list of right places, one by one.
use Prim.Native.Nat.{ℕ, ◌+◌, ◌≤◌, ◌<◌}
use mathlib.Core.Path.{◌≡◌, refl, ap}
use mathlib.Core.List.{List, [], ◌∷◌, ◌++◌}
use mathlib.Core.Bool.{Bool, true, false}
use native.Mathlib.Numerals.{add-one}
use lib.ListN.{length, get_or, drop, drop_of_length-le}
use lib.Seq.{drop-cons}
use Rattle.lists.specs.Lists.{onto, keep}
use Rattle.join_spec.specs.PairList.{onto_pair}
use Rattle.join_pairs.specs.row_pairs.Containing.{pairs_with}

-- one place after the other
pub row_next : (p : ℕ → Bool) (k s : ℕ) (places : List ℕ)
    → pairs_with k (keep p (s ∷ places)) ≡ onto_pair (p s) k s [] ++ pairs_with k (keep p places)
unfolding pairs_with keep
row_next p k s places = made (p s)
  where
    made : (b : Bool) → pairs_with k (onto b s (keep p places)) ≡ onto_pair b k s [] ++ pairs_with k (keep p places)
    made true = refl
    made false = refl

pub row_none : (p : ℕ → Bool) (k : ℕ) → pairs_with k (keep p []) ≡ []
unfolding pairs_with keep
row_none p k = refl

-- place by place of a list
pub kept_next : (k : ℕ) (places : List ℕ) (i : ℕ) → i < length places
    → pairs_with k (drop i places) ≡ onto_pair true k (get_or places i 0) [] ++ pairs_with k (drop (i + 1) places)
unfolding pairs_with
kept_next k places i more = rw (add-one i) (ap (pairs_with k) (drop-cons places i 0 more))

pub kept_none : (k : ℕ) (places : List ℕ) (i : ℕ) → length places ≤ i → pairs_with k (drop i places) ≡ []
unfolding pairs_with
kept_none k places i past = ap (pairs_with k) (drop_of_length-le places {i = i} past)
