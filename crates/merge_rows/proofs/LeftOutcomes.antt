-- What one left set comes to by the definitions is its yield: an empty one comes to nothing, one within the limit to its pairs by path,
-- and a longer one to its checks with the right sets that hold its first ranks.
use Prim.Native.Nat.{ℕ, suc, ◌+◌, ◌<◌, ◌≤◌}
use mathlib.Core.Path.{◌≡◌, refl, sym, ap, ap₂, ◌∙◌}
use mathlib.Core.List.{List, [], ◌∷◌}
use mathlib.Core.Bool.{Bool, true, false, not, cond, ◌&&◌}
use native.Mathlib.Nat.{add-zero, zero-add}
use native.Mathlib.Omega.{arith}
use lib.Dec.{ltb}
use lib.ListN.{length, get_or}
use Rattle.lists.specs.Lists.{onto, count, keep, all, memb, subset, range, upto}
use Rattle.lists.proofs.Bools.{same_test}
use Rattle.lists.proofs.Counting.{count_none, count_same_where}
use Rattle.lists.proofs.Filtering.{keep_same, keep_none, keep_all, keep_through, all_keep, length-keep, count-keep}
use Rattle.lists.proofs.Ranges.{all_upto, count_places}
use Rattle.lists.proofs.Throughout.{all_intro, subset_elim, subset_intro, subset_nil}
use Rattle.sets.specs.Collections.{contained, good_items}
use Rattle.sets.specs.Ordered.{is_permutation}
use Rattle.sets.specs.Signatures.{signature, drops}
use Rattle.sets.proofs.Containment.{contained_none, contained-subset}
use Rattle.sets.proofs.Signatures.{contained_not_dropped}
use Rattle.join_spec.specs.declared.Rule.TheVariants.{Merge}
use Rattle.join_spec.specs.PairList.{onto_pair, row_from}
use Rattle.join_spec.specs.Query.{Query}
use Rattle.join_spec.specs.Walk.{Outcome, not_met, by_path, dropped, false_drop, confirmed, outcome}
use Rattle.join_spec.specs.Counting.{is_confirmed, is_dropped, is_false}
use Rattle.join_laws.proofs.EmptyLefts.{outcome_empty}
use Rattle.join_laws.proofs.MergeEndings.{outcome_short, outcome_long}
use Rattle.merge_rows.specs.FirstRanks.{on_path, path_of}
use Rattle.merge_rows.specs.ShortLists.{pairs_with}
use Rattle.merge_rows.specs.Yields.{Yield, holds_all, is_drop, candidates_of, yield_among, yield_of}
use Rattle.merge_rows.specs.Yields.{is_false as isVain}
use Rattle.merge_rows.specs.Merging.{one_total}
use Rattle.merge_rows.proofs.RankCounts.{good_below, length_ranked}
use Rattle.merge_rows.proofs.PathLaws.{subset_path}

-- a left set's pairs and checks are those of a yield, of which so many are confirmed
pub record LeftIs (q : Query) (left : List ℕ) (y : Yield) (sure : ℕ) : Type 0 where
  pub row : (k : ℕ) → row_from (contained left) k 0 q.rights ≡ pairs_with k y.places
  pub confirmed : one_total is_confirmed q left ≡ sure
  pub dropped : one_total is_dropped q left ≡ y.dropped
  pub falses : one_total is_false q left ≡ y.falses

-- a query under Merge of sets without a bad one
pub record Merges (q : Query) : Type 0 where
  pub rule : q.rule ≡ Merge
  pub some : 0 < q.limit
  pub permutation : is_permutation q.T q.ranks ≡ true
  pub lefts : all (good_items q.T) q.lefts ≡ true
  pub rights : all (good_items q.T) q.rights ≡ true

abbrev pub nothing : Yield
nothing = record { places = []; dropped = 0; falses = 0 }

-- the order of a path, and how often an item is in it, have no bearing
pub yield_members : (rights : List (List ℕ)) (a b more : List ℕ) → ((x : ℕ) → memb x a ≡ memb x b)
    → yield_of rights a more ≡ yield_of rights b more
unfolding candidates_of
yield_members rights a b more same =
    ap (yield_among rights more)
    (keep_same (holds_all rights a) (holds_all rights b) (upto (length rights)) (λ s. held (get_or rights s [])))
  where
    held : (right : List ℕ) → subset a right ≡ subset b right
    held right =
        same_test (subset a right) (subset b right)
        (λ h. subset_intro b right (λ x m. subset_elim a right h x (same x ∙ m)))
        (λ h. subset_intro a right (λ x m. subset_elim b right h x (sym (same x) ∙ m)))

-- the pairs of a left set, by the places of the right sets that pass
row_places : {B : Type 0} (d : B) (test : B → Bool) (k r : ℕ) (p : ℕ → Bool) (rights : List B)
    → ((i : ℕ) → i < length rights → p (r + i) ≡ test (get_or rights i d))
    → row_from test k r rights ≡ pairs_with k (keep p (range r (length rights)))
unfolding row_from pairs_with keep range
row_places d test k r p [] same = refl
row_places d test k r p (right ∷ rights) same =
    let here : test right ≡ p r = sym (same 0 (omega arith)) ∙ ap p (add-zero r) in
    ap₂ (λ (b : Bool) (l : List ℕ). onto_pair b k r l) here
    (row_places d test k (suc r) p rights
    (λ i below. let next : suc r + i ≡ r + suc i = omega arith in ap p next ∙ same (suc i) (omega arith)))
    ∙ made (p r) (keep p (range (suc r) (length rights)))
  where
    made : (b : Bool) (l : List ℕ) → onto_pair b k r (pairs_with k l) ≡ pairs_with k (onto b r l)
    made true l = refl
    made false l = refl

-- a left set with an item makes a pair with each right set that holds all of it
row_held : (rights : List (List ℕ)) (left : List ℕ) → 0 < length left → (k : ℕ)
    → row_from (contained left) k 0 rights ≡ pairs_with k (keep (holds_all rights left) (upto (length rights)))
row_held rights left some k =
    row_places [] (contained left) k 0 (holds_all rights left) rights
    (λ i below. ap (holds_all rights left) (zero-add i) ∙ sym (contained-subset left (get_or rights i []) some))

-- a right set that holds all of a left set holds its path
path_held : (limit : ℕ) (ranks left right : List ℕ) → subset left right ≡ true → subset (path_of limit ranks left) right ≡ true
unfolding path_of
path_held limit ranks left right held = all_keep (λ x. memb x right) (on_path limit ranks left) left held

-- what a check comes to: a candidate, dropped or not, that holds all of the left set or not
abbrev checked : (candidate drop holds : Bool) → Outcome
checked candidate drop holds = cond candidate (cond drop dropped (cond holds confirmed false_drop)) not_met

checked_confirmed : (a d h : Bool) → (h ≡ true → d ≡ false) → is_confirmed (checked a d h) ≡ (a && h)
checked_confirmed false d h never = refl
checked_confirmed true false true never = refl
checked_confirmed true false false never = refl
checked_confirmed true true false never = refl
checked_confirmed true true true never = sym (never refl)

checked_dropped : (a d h : Bool) → (h ≡ true → d ≡ false) → is_dropped (checked a d h) ≡ (a && (not h && d))
checked_dropped false d h never = refl
checked_dropped true false true never = refl
checked_dropped true false false never = refl
checked_dropped true true false never = refl
checked_dropped true true true never = never refl

checked_false : (a d h : Bool) → (h ≡ true → d ≡ false) → is_false (checked a d h) ≡ (a && (not h && not d))
checked_false false d h never = refl
checked_false true false true never = refl
checked_false true false false never = refl
checked_false true true false never = refl
checked_false true true true never = refl

module _ {q : Query} (merges : Merges q) where
  -- an empty left set meets no right set
  none_empty : (is : Outcome → Bool) → is not_met ≡ false → one_total is q [] ≡ 0
  none_empty is met = count_none (λ right. is (outcome q [] right)) q.rights (λ right. ap is (outcome_empty q right) ∙ met)

  pub left_empty : LeftIs q [] nothing 0
  unfolding pairs_with
  left_empty =
      record {
        row =
            λ k.
            row_places [] (contained []) k 0 (λ s. false) q.rights (λ i below. sym (contained_none (get_or q.rights i [])))
            ∙ ap (pairs_with k) (keep_none (λ (s : ℕ). false) (upto (length q.rights)) (λ s. refl));
        confirmed = none_empty is_confirmed refl;
        dropped = none_empty is_dropped refl;
        falses = none_empty is_false refl;
      }

  pub left_short : (left : List ℕ) → good_items q.T left ≡ true → 0 < length left → length left ≤ q.limit
      → LeftIs q left (yield_of q.rights left []) 0
  unfolding candidates_of
  left_short left good some few =
      record {
        row = λ k. row_held q.rights left some k ∙ ap (pairs_with k) (sym whole);
        confirmed = none is_confirmed refl refl;
        dropped = none is_dropped refl refl ∙ sym (count_none (is_drop q.rights []) candidates (λ s. rw (holds s)));
        falses = none is_false refl refl ∙ sym (count_none (isVain q.rights []) candidates (λ s. rw (holds s)));
      }
    where
      candidates : List ℕ
      candidates = keep (holds_all q.rights left) (upto (length q.rights))

      holds : (s : ℕ) → holds_all q.rights [] s ≡ true
      holds s = subset_nil (get_or q.rights s [])

      whole : keep (holds_all q.rights []) candidates ≡ candidates
      whole = keep_all (holds_all q.rights []) candidates (all_intro (holds_all q.rights []) candidates (λ s there. holds s))

      -- none is checked
      none : (is : Outcome → Bool) → is by_path ≡ false → is not_met ≡ false → one_total is q left ≡ 0
      none is path met =
          count_same_where (good_items q.T) (λ right. is (outcome q left right)) (λ right. false) q.rights merges.rights
          (λ right goodRight.
          ap is
          (outcome_short q merges.rule merges.some left right merges.permutation (good_below q.T left good)
          (good_below q.T right goodRight)
          (omega (arith, length_ranked q.T q.ranks merges.permutation left good)))
          ∙ either (contained left right))
          ∙ count_none (λ (right : List ℕ). false) q.rights (λ right. refl)
        where
          either : (b : Bool) → is (cond b by_path not_met) ≡ false
          either true = path
          either false = met

  pub left_long : (left : List ℕ) → good_items q.T left ≡ true → q.limit < length left
      → let y = yield_of q.rights (path_of q.limit q.ranks left) left in
      LeftIs q left y (length y.places)
  unfolding candidates_of
  left_long left good many =
      record {
        row = λ k. row_held q.rights left some k ∙ ap (pairs_with k) (sym through);
        confirmed =
            total is_confirmed (λ right. subset left right) (λ right. checked_confirmed (path right) (drop right) (held right) (never right))
            ∙ sym (length-keep (holds_all q.rights left) candidates);
        dropped =
            total is_dropped (λ right. not (subset left right) && drops (signature left) (signature right))
            (λ right. checked_dropped (path right) (drop right) (held right) (never right));
        falses =
            total is_false (λ right. not (subset left right) && not (drops (signature left) (signature right)))
            (λ right. checked_false (path right) (drop right) (held right) (never right));
      }
    where
      some : 0 < length left
      some = omega arith

      path : List ℕ → Bool
      path right = subset (path_of q.limit q.ranks left) right

      drop : List ℕ → Bool
      drop right = drops (signature left) (signature right)

      held : List ℕ → Bool
      held right = subset left right

      candidates : List ℕ
      candidates = keep (holds_all q.rights (path_of q.limit q.ranks left)) (upto (length q.rights))

      never : (right : List ℕ) → held right ≡ true → drop right ≡ false
      never right h = contained_not_dropped left right (contained-subset left right some ∙ h)

      -- what holds all of the set holds its path
      through : keep (holds_all q.rights left) candidates ≡ keep (holds_all q.rights left) (upto (length q.rights))
      through =
          keep_through (holds_all q.rights left) (holds_all q.rights (path_of q.limit q.ranks left)) (λ s. ltb s (length q.rights))
          (upto (length q.rights)) (all_upto (length q.rights))
          (λ s below h. path_held q.limit q.ranks left (get_or q.rights s []) h)

      is_checked : (right : List ℕ) → good_items q.T right ≡ true → outcome q left right ≡ checked (path right) (drop right) (held right)
      is_checked right goodRight =
          outcome_long q merges.rule merges.some left right
          (omega (arith, length_ranked q.T q.ranks merges.permutation left good))
          ∙ ap₂ (λ (a h : Bool). checked a (drop right) h)
          (subset_path q.T q.ranks merges.permutation q.limit left right good goodRight)
          (contained-subset left right some)

      total : (is : Outcome → Bool) (p : List ℕ → Bool)
          → ((right : List ℕ) → is (checked (path right) (drop right) (held right)) ≡ (path right && p right))
          → one_total is q left ≡ count (λ s. p (get_or q.rights s [])) candidates
      total is p each =
          count_same_where (good_items q.T) (λ right. is (outcome q left right)) (λ right. path right && p right) q.rights
          merges.rights (λ right goodRight. ap is (is_checked right goodRight) ∙ each right)
          ∙ count_places [] (λ right. path right && p right) q.rights
          ∙ sym (count-keep (holds_all q.rights (path_of q.limit q.ranks left)) (λ s. p (get_or q.rights s [])) (upto (length q.rights)))
