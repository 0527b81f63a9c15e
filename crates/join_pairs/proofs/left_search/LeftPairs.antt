-- The pairs of one left set with all right places.
use Prim.Native.Nat.{ℕ, zero, suc, ◌+◌}
use mathlib.Core.Path.{◌≡◌, refl, ap, ◌∙◌}
use mathlib.Core.List.{List, [], ◌∷◌}
use mathlib.Core.Bool.{Bool, true, false}
use native.Mathlib.Omega.{arith}
use lib.Dec.{ltb}
use lib.ListN.{length, get_or, drop, drop_of_length-le}
use lib.Seq.{drop-cons}
use borrow.Author.Tests.{ltb-true}
use Rattle.lists.specs.Lists.{onto, keep, range, upto}
use Rattle.lists.proofs.Filtering.{keep_none, keep_same_where}
use Rattle.lists.proofs.Ranges.{all_upto}
use Rattle.sets.specs.Collections.{contained}
use Rattle.sets.proofs.Containment.{contained_none}
use Rattle.join_spec.specs.Query.{Query}
use Rattle.join_spec.specs.PairList.{onto_pair, row_from}
use Rattle.join_index.specs.Grouping.{left_at, right_at}
use Rattle.join_index.specs.declared.Layout.{Layout}
use Rattle.join_index.specs.Asking.{LeftThere}
use Rattle.kept_rows.specs.Kept.{contained_at}
use Rattle.join_pairs.specs.row_pairs.Containing.{pairs_with, row_among}
use Rattle.join_pairs.specs.left_search.LeftRows.{row_at}

-- a row of the pair list, as the right places that are kept
row_from_lem : (k : ℕ) (left : List ℕ) (rights : List (List ℕ)) (r n : ℕ) → r + n ≡ length rights
    → row_from (contained left) k r (drop r rights) ≡ pairs_with k (keep (λ (s : ℕ). contained left (get_or rights s [])) (range r n))
unfolding row_from pairs_with keep range
row_from_lem k left rights r zero e = rw (drop_of_length-le rights {i = r} (omega arith))
row_from_lem k left rights r (suc n) e =
    rw (drop-cons rights r [] (omega arith))
    (made (contained left (get_or rights r [])) (row_from_lem k left rights (suc r) n (omega arith)))
  where
    made : (b : Bool)
        → row_from (contained left) k (suc r) (drop (suc r) rights)
        ≡ pairs_with k (keep (λ (s : ℕ). contained left (get_or rights s [])) (range (suc r) n))
        → onto_pair b k r (row_from (contained left) k (suc r) (drop (suc r) rights))
        ≡ pairs_with k (onto b r (keep (λ (s : ℕ). contained left (get_or rights s [])) (range (suc r) n)))
    made true later = ap (λ (l : List ℕ). k ∷ r ∷ l) later
    made false later = later

pub row-whole : (q : Query) (k : ℕ) → row_at q k ≡ row_among q k (upto (length q.rights))
row-whole q k = row_from_lem k (get_or q.lefts k []) q.rights 0 (length q.rights) (omega arith)

module _ {lay : Layout} {q : Query} {w : List ℕ} {k : ℕ} (there : LeftThere lay q w k) where
  -- a left set without ranks is contained in no right set
  pub row_empty : left_at q k ≡ [] → row_at q k ≡ []
  unfolding pairs_with
  row_empty none =
      row-whole q k
      ∙ ap (pairs_with k)
      (keep_same_where (λ (s : ℕ). ltb s (length q.rights)) (contained_at q k) (λ s. false) (upto (length q.rights))
      (all_upto (length q.rights))
      (λ s low.
      there.index.ground.faithful k s there.below (ltb-true s (length q.rights) low)
      ∙ ap (λ (l : List ℕ). contained l (right_at q s)) none
      ∙ contained_none (right_at q s))
      ∙ keep_none (λ s. false) (upto (length q.rights)) (λ s. refl))
