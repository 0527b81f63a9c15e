-- Under Merge the walk of a left set goes on to its end, or to the limit: a set with at most as many ranks is merged, a longer one is
-- checked after the limit's ranks. So what becomes of a left and a right set is decided by these two alone: no tree is needed.
use Prim.Native.Nat.{ℕ, zero, suc, ◌+◌, ◌-◌, ◌<◌, ◌≤◌}
use mathlib.Core.Path.{◌≡◌, refl, sym, ap, ◌∙◌}
use mathlib.Core.List.{List, [], ◌∷◌}
use mathlib.Core.Bool.{Bool, true, cond}
use native.Mathlib.Omega.{arith}
use borrow.Author.Tests.{eq-eqb, ne_eqb, eqb-false}
use lib.Dec.{eqb}
use lib.ListN.{length, take}
use Rattle.lists.specs.Lists.{subset, rising}
use Rattle.lists.proofs.Bools.{by_test}
use Rattle.sets.specs.Collections.{contained}
use Rattle.sets.specs.Ordered.{is_permutation}
use Rattle.sets.proofs.Ordered.{below, ordered-rising}
use Rattle.sets.proofs.Containment.{contained_ranks}
use Rattle.join_spec.specs.declared.Rule.TheVariants.{Merge}
use Rattle.join_spec.specs.Query.{Query, in_order}
use Rattle.join_spec.specs.Node.{goes_on, goes_on_at}
use Rattle.join_spec.specs.Walk.{Ending, merged, checked_after, ending_from, ending, goes, ending_in, is_candidate, outcome_after, outcome}
use Rattle.join_spec.specs.Walk.{not_met, by_path, check}
use Rattle.join_spec.proofs.Outcomes.{candidate_whole, candidate_held}

-- a rule that always goes on
module _ (on : List ℕ → Bool) (always : (path : List ℕ) → on path ≡ true) where
  -- from depth d on: all ranks are on the path where there are no more than the limit
  from_merged : (n d : ℕ) (ranks : List ℕ) → d ≤ length ranks → length ranks ≤ n + d → ending_from on n d ranks ≡ merged
  unfolding ending_from
  from_merged zero d ranks low high = rw (always (take d ranks), eq-eqb d (length ranks) (omega arith))
  from_merged (suc n) d ranks low high =
      by_test (eqb d (length ranks)) (λ t. rw (always (take d ranks), t))
      (λ f.
      rw (always (take d ranks), f)
      (from_merged n (suc d) ranks (omega (arith, eqb-false d (length ranks) f)) (omega arith)))

  from_checked : (n d : ℕ) (ranks : List ℕ) → n + d < length ranks → ending_from on n d ranks ≡ checked_after (n + d)
  unfolding ending_from
  from_checked zero d ranks more =
      let here : d ≡ 0 + d = omega arith in
      rw (always (take d ranks), ne_eqb d (length ranks) (λ e. omega arith)) (ap checked_after here)
  from_checked (suc n) d ranks more =
      let next : n + suc d ≡ suc n + d = omega arith in
      rw (always (take d ranks), ne_eqb d (length ranks) (λ e. omega arith))
      (from_checked n (suc d) ranks (omega arith) ∙ ap checked_after next)

  ending-merged : (limit : ℕ) (ranks : List ℕ) → 0 < limit → length ranks ≤ limit → ending on limit ranks ≡ merged
  unfolding ending
  ending-merged limit [] some few = refl
  ending-merged limit (r ∷ ranks) some few = from_merged (limit - 1) 1 (r ∷ ranks) (omega arith) (omega arith)

  ending_checked : (limit : ℕ) (ranks : List ℕ) → 0 < limit → limit < length ranks → ending on limit ranks ≡ checked_after limit
  unfolding ending
  ending_checked limit [] some many = absurd (omega arith)
  ending_checked limit (r ∷ ranks) some many =
      let whole : limit - 1 + 1 ≡ limit = omega arith in
      from_checked (limit - 1) 1 (r ∷ ranks) (omega arith) ∙ ap checked_after whole

-- after at least one of its ranks a left set's candidates are the right sets that hold these
candidate_first : (limit : ℕ) (ranks right : List ℕ) → rising right ≡ true → 0 < limit → 0 < length ranks
    → is_candidate limit ranks right ≡ subset (take limit ranks) right
candidate_first limit [] right rises some more = absurd (omega arith)
candidate_first zero (r ∷ ranks) right rises some more = absurd (omega arith)
candidate_first (suc d) (r ∷ ranks) right rises some more = candidate_held d r ranks right rises

module _ (q : Query) (merges : q.rule ≡ Merge) (some : 0 < q.limit) where
  always : (path : List ℕ) → goes q path ≡ true
  unfolding goes goes_on_at goes_on
  always path = rw merges refl

  pub merge_merged : (left : List ℕ) → length (in_order q left) ≤ q.limit → ending_in q left ≡ merged
  unfolding ending_in
  merge_merged left few = ending-merged (goes q) always q.limit (in_order q left) some few

  pub merge_checked : (left : List ℕ) → q.limit < length (in_order q left) → ending_in q left ≡ checked_after q.limit
  unfolding ending_in
  merge_checked left many = ending_checked (goes q) always q.limit (in_order q left) some many

  -- within the limit: a pair by path where the left set is contained, else it is not met
  pub outcome_short : (left right : List ℕ) → is_permutation q.T q.ranks ≡ true → below q.T left ≡ true → below q.T right ≡ true
      → length (in_order q left) ≤ q.limit → outcome q left right ≡ cond (contained left right) by_path not_met
  unfolding outcome
  outcome_short left right permutation leftBelow rightBelow few =
      ap (λ (e : Ending). outcome_after e (in_order q left) (in_order q right) by_path (check left right)) (merge_merged left few)
      ∙ ap (λ (b : Bool). cond b by_path not_met)
      (candidate_whole (in_order q left) (in_order q right) (ordered-rising q.T q.ranks right)
      ∙ contained_ranks q.T q.ranks permutation left right leftBelow rightBelow)

  -- beyond it: a check where the right set has the first ranks, else it is not met
  pub outcome_long : (left right : List ℕ) → q.limit < length (in_order q left)
      → outcome q left right ≡ cond (subset (take q.limit (in_order q left)) (in_order q right)) (check left right) not_met
  unfolding outcome
  outcome_long left right many =
      ap (λ (e : Ending). outcome_after e (in_order q left) (in_order q right) by_path (check left right)) (merge_checked left many)
      ∙ ap (λ (b : Bool). cond b (check left right) not_met)
      (candidate_first q.limit (in_order q left) (in_order q right) (ordered-rising q.T q.ranks right) some (omega arith))
