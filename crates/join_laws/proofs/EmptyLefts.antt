-- Empty left sets have no bearing on a join (document 02, C-14): with any settings each of them meets no right set, and a query has the
-- same counts without them. A path has a rank, so that no empty left set begins with it, and m, c and t at a node are the same.
use Prim.Native.Nat.{ℕ, zero, suc, ◌-◌, ◌*◌}
use mathlib.Core.Path.{◌≡◌, refl, sym, ap, ◌∙◌}
use mathlib.Core.List.{List, [], ◌∷◌, map}
use mathlib.Core.Bool.{Bool, true, false, cond, ◌&&◌, and-false}
use native.Mathlib.Omega.{arith}
use borrow.Author.Tests.{lt-ltb}
use lib.Dec.{ltb}
use lib.ListN.{length, get_or, take}
use Rattle.std.specs.Prelude.{Ok}
use Rattle.lists.specs.Lists.{count, keep, prefix}
use Rattle.lists.proofs.Counting.{count_none, count_same, count_map}
use Rattle.lists.proofs.Filtering.{count-keep, sum-keep}
use Rattle.lists.proofs.Summing.{sum_same}
use Rattle.sets.specs.Collections.{has_item, contained}
use Rattle.sets.proofs.Ordered.{ordered_nil}
use Rattle.sets.proofs.Containment.{contained_none}
use Rattle.inputs.specs.Input.{Input, left_sets, right_sets}
use Rattle.join_spec.specs.declared.Counts.{Counts}
use Rattle.join_spec.specs.PairList.{count_pairs, pair_count}
use Rattle.join_spec.specs.Query.{Settings, Query, query_of, in_order}
use Rattle.join_spec.specs.Node.{goes_on, goes_on_at, candidates, holders, beginning}
use Rattle.join_spec.specs.Walk.{Ending, ending, ending_from, goes, ending_in}
use Rattle.join_spec.specs.Walk.{Outcome, not_met, by_path, check, outcome_after, outcome}
use Rattle.join_spec.specs.Answer.{RunCall}
use Rattle.join_spec.specs.Counting.{total, is_by_path, is_confirmed, is_check, is_dropped, is_false, counts_of}
use Rattle.join_spec.proofs.Outcomes.{outcome_ended}
use Rattle.join_spec.proofs.PairListLaws.{pair_occurs}
use Rattle.join_spec.proofs.Calls.{call_once, call_counts}

-- a query without its empty left sets
pub without_empty : Query → Query
without_empty q =
    record {
      T = q.T;
      ranks = q.ranks;
      limit = q.limit;
      rule = q.rule;
      lefts = keep has_item q.lefts;
      rights = q.rights;
    }

-- an empty left set meets no right set
pub outcome_empty : (q : Query) (right : List ℕ) → outcome q [] right ≡ not_met
outcome_empty q right = outcome_ended q [] right (ordered_nil q.T q.ranks)

-- a set with a first item has one
some : (i : ℕ) (items : List ℕ) → has_item (i ∷ items) ≡ true
some i items = lt-ltb 0 (length (i ∷ items)) (omega arith)

module _ (q : Query) where
  -- no empty left set begins with a path
  same_beginning : (r : ℕ) (path : List ℕ)
      → beginning (map (in_order q) (keep has_item q.lefts)) (r ∷ path) ≡ beginning (map (in_order q) q.lefts) (r ∷ path)
  same_beginning r path =
      count_map (in_order q) (prefix (r ∷ path)) (keep has_item q.lefts)
      ∙ count-keep has_item (λ left. prefix (r ∷ path) (in_order q left)) q.lefts
      ∙ count_same (λ left. has_item left && prefix (r ∷ path) (in_order q left)) (λ left. prefix (r ∷ path) (in_order q left)) q.lefts
      begins
      ∙ sym (count_map (in_order q) (prefix (r ∷ path)) q.lefts)
    where
      begins : (left : List ℕ) → (has_item left && prefix (r ∷ path) (in_order q left)) ≡ prefix (r ∷ path) (in_order q left)
      begins [] = unfold prefix in rw (ordered_nil q.T q.ranks) refl
      begins (i ∷ items) = rw (some i items) refl

  -- so the rule decides the same at every node
  same_goes : (r : ℕ) (path : List ℕ) → goes (without_empty q) (r ∷ path) ≡ goes q (r ∷ path)
  unfolding goes goes_on_at without_empty
  same_goes r path =
      ap
      (goes_on q.rule (candidates (map (in_order q) q.rights) (r ∷ path)) (holders (map (in_order q) q.rights) (r ∷ path)))
      (same_beginning r path)

-- and a left set ends alike under rules that decide alike at every node
module _ (goes other : List ℕ → Bool) (same : (r : ℕ) (path : List ℕ) → goes (r ∷ path) ≡ other (r ∷ path)) where
  ending_from_lem : (n d r : ℕ) (ranks : List ℕ) → ending_from goes n (suc d) (r ∷ ranks) ≡ ending_from other n (suc d) (r ∷ ranks)
  unfolding ending_from
  ending_from_lem zero d r ranks = rw (same r (take d ranks)) refl
  ending_from_lem (suc n) d r ranks = rw (same r (take d ranks), ending_from_lem n (suc d) r ranks) refl

  ending_same : (limit : ℕ) (ranks : List ℕ) → ending goes limit ranks ≡ ending other limit ranks
  unfolding ending
  ending_same limit [] = refl
  ending_same limit (r ∷ ranks) = ending_from_lem (limit - 1) 0 r ranks

-- so each left set becomes the same
outcome_without : (q : Query) (left right : List ℕ) → outcome (without_empty q) left right ≡ outcome q left right
unfolding outcome ending_in without_empty
outcome_without q left right =
    ap (λ (e : Ending). outcome_after e (in_order q left) (in_order q right) by_path (check left right))
    (ending_same (goes (without_empty q)) (goes q) (same_goes q) q.limit (in_order q left))

-- what is counted over left sets, where the empty ones add nothing
count_without : (test : List ℕ → List ℕ → Bool) (lefts rights : List (List ℕ)) → ((right : List ℕ) → test [] right ≡ false)
    → count_pairs test (keep has_item lefts) rights ≡ count_pairs test lefts rights
count_without test lefts rights none =
    sum-keep (λ left. count (test left) rights) has_item lefts
    ∙ sum_same (λ left. cond (has_item left) (count (test left) rights) 0) (λ left. count (test left) rights) lefts each
  where
    each : (left : List ℕ) → cond (has_item left) (count (test left) rights) 0 ≡ count (test left) rights
    each [] = sym (count_none (test []) rights none)
    each (i ∷ items) = rw (some i items) refl

total_without : (is : Outcome → Bool) → is not_met ≡ false → (q : Query) → total is (without_empty q) ≡ total is q
unfolding total without_empty
total_without is met q =
    sum_same _ _ (keep has_item q.lefts)
    (λ left. count_same _ _ q.rights (λ right. ap is (outcome_without q left right)))
    ∙ count_without (λ left right. is (outcome q left right)) q.lefts q.rights
    (λ right. ap is (outcome_empty q right) ∙ met)

-- a query has the same six counts without its empty left sets
counts_without : (q : Query) → counts_of (without_empty q) ≡ counts_of q
counts_without q =
    rw (
      total_without is_by_path refl q,
      total_without is_confirmed refl q,
      total_without is_check refl q,
      total_without is_dropped refl q,
      total_without is_false refl q,
      pairs_without,
    )
    refl
  where
    pairs_without : pair_count (without_empty q).lefts (without_empty q).rights ≡ pair_count q.lefts q.rights
    pairs_without = unfold without_empty in count_without contained q.lefts q.rights contained_none

-- over what `run` promises of a call
module _ (i : Input) (s : Settings) {counts : Counts} {work before work' after : List ℕ}
    (call : RunCall i s work before work' after (Ok counts)) where
  -- an empty left set is in no pair
  pub empty_unpaired : (l r : ℕ) → get_or (left_sets i) l [] ≡ [] → pair_occurs l r (take (2 * counts.pairs) after) ≡ 0
  empty_unpaired l r empty =
      call_once i s call l r
      ∙ rw (
        empty,
        contained_none (get_or (right_sets i) r []),
        and-false (ltb r (length (right_sets i))),
        and-false (ltb l (length (left_sets i))),
      )
      refl

  -- and each count is that of the query without them
  pub empty_uncounted : counts ≡ counts_of (without_empty (query_of i s))
  empty_uncounted = call_counts i s call ∙ sym (counts_without (query_of i s))
