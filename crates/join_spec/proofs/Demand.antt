-- The six counts: contained pairs are those by path and those confirmed; a check ends as a drop, false or confirmed; and no
-- count is above left sets x right sets. Any query; the first law asks that ranks are a permutation and items are below T.
use Prim.Native.Nat.{ℕ, ◌+◌, ◌*◌, ◌≤◌}
use mathlib.Core.Path.{◌≡◌, refl, sym, ap, ◌∙◌}
use mathlib.Core.List.{List}
use mathlib.Core.Bool.{Bool, true, false, ◌||◌}
use native.Mathlib.Nat.{le_trans, mul-le-mul}
use lib.ListN.{length}
use Rattle.lists.specs.Lists.{all, count}
use Rattle.lists.proofs.Counting.{count_same_where, count_or, count_bound}
use Rattle.lists.proofs.Summing.{sum_same, sum_same_where, sum-add, sum_bound}
use Rattle.sets.specs.Limits.{max_sets, max_pairs}
use Rattle.sets.specs.Collections.{contained}
use Rattle.sets.specs.Ordered.{is_permutation}
use Rattle.sets.proofs.Ordered.{below}
use Rattle.join_spec.specs.PairList.{pair_count}
use Rattle.join_spec.specs.Query.{Query}
use Rattle.join_spec.specs.Walk.{Outcome, not_met, by_path, dropped, false_drop, confirmed, outcome}
use Rattle.join_spec.specs.Counting.{is_by_path, is_dropped, is_false, is_confirmed, is_check, total}
use Rattle.join_spec.proofs.Outcomes.{contained_met}

-- two kinds of outcome that no pair has both of are counted together as apart
pub total_or : (is or : Outcome → Bool) (q : Query) → ((o : Outcome) → is o ≡ true → or o ≡ false)
    → total (λ (o : Outcome). is o || or o) q ≡ total is q + total or q
unfolding total
total_or is or q apart =
    sum_same (λ (left : List ℕ). count (λ (right : List ℕ). is (outcome q left right) || or (outcome q left right)) q.rights)
    (λ (left : List ℕ).
    count (λ (right : List ℕ). is (outcome q left right)) q.rights
    + count (λ (right : List ℕ). or (outcome q left right)) q.rights)
    q.lefts
    (λ left.
    count_or (λ (right : List ℕ). is (outcome q left right)) (λ (right : List ℕ). or (outcome q left right)) q.rights
    (λ right. apart (outcome q left right)))
    ∙ sum-add (λ (left : List ℕ). count (λ (right : List ℕ). is (outcome q left right)) q.rights)
    (λ (left : List ℕ). count (λ (right : List ℕ). or (outcome q left right)) q.rights)
    q.lefts

path_apart : (o : Outcome) → is_by_path o ≡ true → is_confirmed o ≡ false
path_apart not_met e = refl
path_apart by_path e = refl
path_apart dropped e = refl
path_apart false_drop e = refl
path_apart confirmed e = sym e

pub dropped_apart : (o : Outcome) → is_dropped o ≡ true → (is_false o || is_confirmed o) ≡ false
dropped_apart not_met e = refl
dropped_apart by_path e = refl
dropped_apart dropped e = refl
dropped_apart false_drop e = sym e
dropped_apart confirmed e = sym e

pub false_apart : (o : Outcome) → is_false o ≡ true → is_confirmed o ≡ false
false_apart not_met e = refl
false_apart by_path e = refl
false_apart dropped e = refl
false_apart false_drop e = refl
false_apart confirmed e = sym e

-- pairs = by path + confirmed
pub pairs_met : (q : Query) → is_permutation q.T q.ranks ≡ true
    → all (below q.T) q.lefts ≡ true → all (below q.T) q.rights ≡ true
    → pair_count q.lefts q.rights ≡ total is_by_path q + total is_confirmed q
unfolding total
pairs_met q permutation leftsBelow rightsBelow =
    met ∙ total_or is_by_path is_confirmed q path_apart
  where
    met : pair_count q.lefts q.rights ≡ total (λ (o : Outcome). is_by_path o || is_confirmed o) q
    met =
        sum_same_where (below q.T) (λ (left : List ℕ). count (contained left) q.rights)
        (λ (left : List ℕ).
        count (λ (right : List ℕ). is_by_path (outcome q left right) || is_confirmed (outcome q left right)) q.rights)
        q.lefts leftsBelow
        (λ left leftBelow.
        count_same_where (below q.T) (contained left)
        (λ (right : List ℕ). is_by_path (outcome q left right) || is_confirmed (outcome q left right)) q.rights rightsBelow
        (λ right rightBelow. contained_met q left right permutation leftBelow rightBelow))

-- checks = dropped + false + confirmed
pub checks_end : (q : Query) → total is_check q ≡ total is_dropped q + (total is_false q + total is_confirmed q)
checks_end q =
    total_or is_dropped (λ (o : Outcome). is_false o || is_confirmed o) q dropped_apart
    ∙ ap (λ (n : ℕ). total is_dropped q + n) (total_or is_false is_confirmed q false_apart)

-- no kind of outcome is met more often than there are pairs of sets; checks are one kind
pub total_bound : (is : Outcome → Bool) (q : Query) → total is q ≤ length q.lefts * length q.rights
unfolding total
total_bound is q =
    sum_bound (λ (left : List ℕ). count (λ (right : List ℕ). is (outcome q left right)) q.rights) (length q.rights)
    q.lefts
    (λ left. count_bound (λ (right : List ℕ). is (outcome q left right)) q.rights)

-- so with at most 4,096 sets a side every count is within 32 bits
pub total_small : (is : Outcome → Bool) (q : Query) → length q.lefts ≤ max_sets → length q.rights ≤ max_sets
    → total is q ≤ max_pairs
total_small is q few-lefts few_rights = le_trans (total_bound is q) (mul-le-mul few-lefts few_rights)
