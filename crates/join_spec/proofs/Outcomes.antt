-- A pair is contained exactly when it comes by path or in a check that confirms it: for any limit, rule and weights.
-- A right set that holds the first rank of a left set is seen, since its least rank is at most that one; so the walk never
-- leaves a contained pair behind, wherever it ends. A set's ranks are its items' under a permutation, in rising order.
use Prim.Native.Nat.{ℕ, suc, ◌<◌}
use mathlib.Core.Path.{◌≡◌, refl, sym, ap, ◌∙◌}
use mathlib.Core.List.{List, [], ◌∷◌}
use mathlib.Core.Bool.{Bool, true, false, cond, ◌&&◌, ◌||◌, false≢true}
use native.Mathlib.Omega.{arith}
use lib.ListN.{length, take}
use lib.Seq.{take-length}
use borrow.Author.Tests.{le-leb}
use Rattle.lists.specs.Lists.{memb, subset, rising}
use Rattle.lists.proofs.Bools.{and_both, and_right, same_test}
use Rattle.lists.proofs.Membership.{memb_head, memb_nil}
use Rattle.lists.proofs.Throughout.{subset_elim, all_take}
use Rattle.lists.proofs.Rising.{rising_least}
use Rattle.sets.specs.Collections.{contained}
use Rattle.sets.specs.Ordered.{is_permutation}
use Rattle.sets.specs.Signatures.{signature, drops}
use Rattle.sets.proofs.Ordered.{below, ordered-rising}
use Rattle.sets.proofs.Containment.{contained_none, contained-subset, contained_ranks}
use Rattle.sets.proofs.Signatures.{contained_not_dropped}
use Rattle.join_spec.specs.Query.{Query, in_order}
use Rattle.join_spec.specs.Node.{seen}
use Rattle.join_spec.specs.Walk.{Ending, merged, checked_after, ending, is_candidate, outcome_after, ending_in, outcome}
use Rattle.join_spec.specs.Walk.{not_met, by_path, dropped, false_drop, confirmed, check}
use Rattle.join_spec.specs.Counting.{is_by_path, is_confirmed}

-- a right set that holds a rank is seen at that rank
pub holder_seen : (r : ℕ) (right : List ℕ) → rising right ≡ true → memb r right ≡ true → seen r right ≡ true
unfolding seen
holder_seen r [] rises there = memb_nil r there
holder_seen r (x ∷ xs) rises there = le-leb x r (rising_least x xs rises r there)

-- so after one rank or more, holding the ranks is enough to be a candidate
pub candidate_held : (d r : ℕ) (ranks right : List ℕ) → rising right ≡ true
    → is_candidate (suc d) (r ∷ ranks) right ≡ subset (take (suc d) (r ∷ ranks)) right
unfolding is_candidate
candidate_held d r ranks right rises =
    same_test (seen r right && subset (take (suc d) (r ∷ ranks)) right) (subset (take (suc d) (r ∷ ranks)) right)
    (λ both. and_right (seen r right) (subset (take (suc d) (r ∷ ranks)) right) both)
    (λ held.
    and_both
    (holder_seen r right rises (subset_elim (r ∷ take d ranks) right held r (memb_head r (take d ranks)))) held)

-- a right set that contains a left set is a candidate after any number of its ranks
pub candidate_contained : (d : ℕ) (left right : List ℕ) → rising right ≡ true → contained left right ≡ true
    → is_candidate d left right ≡ true
unfolding is_candidate
candidate_contained d [] right rises held = absurd (false≢true (sym (contained_none right) ∙ held))
candidate_contained d (r ∷ ranks) right rises held =
    let holds = sym (contained-subset (r ∷ ranks) right (omega arith)) ∙ held in
    and_both
    (holder_seen r right rises (subset_elim (r ∷ ranks) right holds r (memb_head r ranks)))
    (all_take (λ (x : ℕ). memb x right) d (r ∷ ranks) holds)

-- a candidate holds the ranks that it is a candidate after, and only a left set with ranks has one
pub candidate_holds : (d : ℕ) (left right : List ℕ) → is_candidate d left right ≡ true → subset (take d left) right ≡ true
unfolding is_candidate
candidate_holds d [] right is = absurd (false≢true is)
candidate_holds d (r ∷ ranks) right is = and_right (seen r right) (subset (take d (r ∷ ranks)) right) is

pub candidate_some : (d : ℕ) (left right : List ℕ) → is_candidate d left right ≡ true → 0 < length left
unfolding is_candidate
candidate_some d [] right is = absurd (false≢true is)
candidate_some d (r ∷ ranks) right is = omega arith

-- the candidates of a left set after all its ranks are the right sets that contain it
pub candidate_whole : (left right : List ℕ) → rising right ≡ true → is_candidate (length left) left right ≡ contained left right
unfolding is_candidate
candidate_whole [] right rises = sym (contained_none right)
candidate_whole (r ∷ ranks) right rises =
    candidate_held (length ranks) r ranks right rises
    ∙ ap (λ (l : List ℕ). subset (r ∷ l) right) (take-length ranks)
    ∙ sym (contained-subset (r ∷ ranks) right (omega arith))

-- what a check finds, from its three tests
checked : (candidate drop holds : Bool) → (holds ≡ true → candidate ≡ true) → (holds ≡ true → drop ≡ false)
    → let o = cond candidate (cond drop dropped (cond holds confirmed false_drop)) not_met in
    holds ≡ (is_by_path o || is_confirmed o)
checked true true true c d = absurd (false≢true (sym (d refl)))
checked true true false c d = refl
checked true false true c d = refl
checked true false false c d = refl
checked false drop true c d = absurd (false≢true (c refl))
checked false drop false c d = refl

merging : (holds : Bool) → let o = cond holds by_path not_met in holds ≡ (is_by_path o || is_confirmed o)
merging true = refl
merging false = refl

-- whatever the ending, a pair is contained exactly when it comes by path or is confirmed
pub met_after : (e : Ending) (left_ranks right_ranks left right : List ℕ)
    → rising right_ranks ≡ true → contained left_ranks right_ranks ≡ contained left right
    → let o = outcome_after e left_ranks right_ranks by_path (check left right) in
    contained left right ≡ (is_by_path o || is_confirmed o)
met_after merged left_ranks right_ranks left right rises alike =
    rw (candidate_whole left_ranks right_ranks rises, alike) (merging (contained left right))
met_after (checked_after d) left_ranks right_ranks left right rises alike =
    checked (is_candidate d left_ranks right_ranks) (drops (signature left) (signature right)) (contained left right)
    (λ holds. candidate_contained d left_ranks right_ranks rises (alike ∙ holds))
    (λ holds. contained_not_dropped left right holds)

-- and so for the ending that a query gives
pub contained_met : (q : Query) (left right : List ℕ) → is_permutation q.T q.ranks ≡ true
    → below q.T left ≡ true → below q.T right ≡ true
    → contained left right ≡ (is_by_path (outcome q left right) || is_confirmed (outcome q left right))
unfolding outcome
contained_met q left right permutation leftBelow rightBelow =
    met_after (ending_in q left) (in_order q left) (in_order q right) left right
    (ordered-rising q.T q.ranks right)
    (contained_ranks q.T q.ranks permutation left right leftBelow rightBelow)

-- a left set without ranks meets no right set
pub outcome_ended : (q : Query) (left right : List ℕ) → in_order q left ≡ [] → outcome q left right ≡ not_met
unfolding outcome ending_in ending is_candidate
outcome_ended q left right none = rw none refl
