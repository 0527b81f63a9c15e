-- The walk over the left sets, with its start, step and ends: what is left of them decides. And the marks of a right set's items: they
-- decide which left sets it contains.
use Prim.Native.Nat.{ℕ, ◌+◌, ◌*◌, ◌<◌, ◌≤◌}
use mathlib.Core.Path.{◌≡◌, refl, sym, ap, ap₂, ◌∙◌}
use mathlib.Core.List.{List, [], ◌∷◌}
use mathlib.Core.Bool.{Bool, true, false, cond, ◌&&◌, ◌||◌, or-false}
use native.Mathlib.Numerals.{add-one}
use native.Mathlib.Omega.{arith}
use borrow.Author.Tests.{ltb-true, lt-ltb}
use lib.Dec.{ltb, leb}
use lib.ListN.{length, get_or, drop, drop_of_length-le, replicate}
use lib.Seq.{drop-cons}
use Rattle.std.specs.Prelude.{None, Some}
use Rattle.lists.specs.Lists.{all, memb, rising}
use Rattle.lists.proofs.Bools.{and_left, and_right}
use Rattle.lists.proofs.Throughout.{all_at}
use Rattle.bit_sets.specs.BitSets.{member, PartFits, InsertedAll}
use Rattle.bit_sets.proofs.Members.{no_member}
use Rattle.sets.specs.Limits.{max_set_length}
use Rattle.sets.specs.Collections.{Collection, between, sets_from, good_items, first_bad_from, first_bad_in, contained}
use Rattle.sets.proofs.Good.{GoodSet, good_step, good_next}
use Rattle.sets.proofs.Containment.{contained_none, contained-subset}
use Rattle.first_search_spec.specs.First.{found_at, none_of, first_from, first_contained}
use Rattle.first_search_spec.proofs.FirstLaws.{first_agree}
use Rattle.first_search.specs.Searching.{CanSearch, is_marked, first_marked}

-- the walk over the sets of a collection, by the ends that are left
module _ (test : List ℕ → Bool) (ends items : List ℕ) (k start : ℕ) where
  first_set_end : length ends ≤ k → first_from test k (sets_from start (drop k ends) items) ≡ none_of k
  unfolding first_from sets_from
  first_set_end over = rw (drop_of_length-le ends {i = k} over)

  first_set_step : k < length ends
      → first_from test k (sets_from start (drop k ends) items)
      ≡ cond (test (between start (get_or ends k 0) items)) (found_at k)
      (first_from test (k + 1) (sets_from (get_or ends k 0) (drop (k + 1) ends) items))
  unfolding first_from sets_from
  first_set_step below = rw (drop-cons ends k 0 below, add-one k)

  first_set-stop : k < length ends → test (between start (get_or ends k 0) items) ≡ true
      → first_from test k (sets_from start (drop k ends) items) ≡ found_at k
  first_set-stop below passes = first_set_step below ∙ rw passes

  first_set_next : k < length ends → test (between start (get_or ends k 0) items) ≡ false
      → first_from test k (sets_from start (drop k ends) items)
      ≡ first_from test (k + 1) (sets_from (get_or ends k 0) (drop (k + 1) ends) items)
  first_set_next below fails = first_set_step below ∙ rw fails

-- at place k, whose set begins at start: what is left decides, and is good
pub record Searching (left : Collection) (marks : List ℕ) (k start : ℕ) : Type 0 where
  pub same : first_from (is_marked marks) k (sets_from start (drop k left.ends) left.items) ≡ first_marked left marks
  pub good : (T : ℕ) → first_bad_in T left ≡ None → first_bad_from T k start (drop k left.ends) left.items ≡ None

module _ {left : Collection} {marks : List ℕ} {k start : ℕ} (s : Searching left marks k start) where
  pub searching_end : length left.ends ≤ k → none_of k ≡ first_marked left marks
  searching_end over = sym (first_set_end (is_marked marks) left.ends left.items k start over) ∙ s.same

  module _ (more : k < length left.ends) where
    -- the set at k can be probed
    module _ (can : CanSearch left marks) where
      pub searching_set : GoodSet can.T k start (get_or left.ends k 0) left.items
      searching_set = good_step can.T left.ends left.items k start more (s.good can.T can.good)

      pub searching_part : PartFits marks (between start (get_or left.ends k 0) left.items)
      searching_part =
          record {
            small = λ e below.
                let one = all_at (λ i. ltb i can.T) 0 (between start (get_or left.ends k 0) left.items) searching_set.below e below in
                omega (arith, ltb-true (get_or (between start (get_or left.ends k 0) left.items) e 0) can.T one, can.wide);
          }

    pub searching_stop : true ≡ is_marked marks (between start (get_or left.ends k 0) left.items)
        → record { place = Some k; compared = k + 1 } ≡ first_marked left marks
    searching_stop All-there =
        rw (add-one k)
        (sym (first_set-stop (is_marked marks) left.ends left.items k start more (sym All-there)) ∙ s.same)

    pub searching_next : false ≡ is_marked marks (between start (get_or left.ends k 0) left.items)
        → Searching left marks (k + 1) (get_or left.ends k 0)
    searching_next one_out =
        record {
          same = sym (first_set_next (is_marked marks) left.ends left.items k start more (sym one_out)) ∙ s.same;
          good = λ T e. good_next T left.ends left.items k start more (s.good T e);
        }

-- the items of a good right set can be marked
pub right_fits : (T : ℕ) (right marks : List ℕ) → T ≤ 64 * length marks → good_items T right ≡ true → PartFits marks right
right_fits T right marks wide good =
    let rest = and_right (leb (length right) max_set_length) (all (λ i. ltb i T) right && rising right) good in
    let below = and_left (all (λ i. ltb i T) right) (rising right) rest in
    record { small = λ k inside. omega (arith, ltb-true (get_or right k 0) T (all_at (λ (i : ℕ). ltb i T) 0 right below k inside)) }

-- where the items of a right set were marked, and no others, the first that is marked is the first that it contains
module _ (words : ℕ) (right : List ℕ) {marks : List ℕ}
    (done : InsertedAll (replicate words 0) right marks) where
  marked_item : (x : ℕ) → member marks x ≡ memb x right
  marked_item x =
      done.holds x
      ∙ ap (λ (b : Bool). memb x right || b) (no_member words x)
      ∙ or-false (memb x right)

  marked-set : (left : List ℕ) → is_marked marks left ≡ contained left right
  unfolding all
  marked-set [] = sym (contained_none right)
  marked-set (i ∷ left) =
      rw (lt-ltb 0 (length (i ∷ left)) (omega arith)) (go (i ∷ left) ∙ sym (contained-subset (i ∷ left) right (omega arith)))
    where
      go : (l : List ℕ) → all (member marks) l ≡ all (λ x. memb x right) l
      go [] = refl
      go (x ∷ xs) = ap₂ (λ (a b : Bool). a && b) (marked_item x) (go xs)

  pub marked_first : (lefts : List (List ℕ)) → first_from (is_marked marks) 0 lefts ≡ first_contained lefts right
  marked_first lefts = first_agree (is_marked marks) (λ left. contained left right) 0 lefts marked-set
