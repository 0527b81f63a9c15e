-- Demand 3 over what `run` promises of a call, the record `RunCall`: what any calls of it show, whatever their settings and lists.
use Prim.Native.Nat.{ℕ, ◌+◌, ◌*◌, ◌≤◌, ◌<◌}
use mathlib.Core.Path.{◌≡◌, sym, ap, ◌∙◌}
use mathlib.Core.List.{List, []}
use mathlib.Core.Bool.{true, ◌&&◌}
use lib.Dec.{ltb}
use lib.ListN.{length, get_or, take, drop}
use Rattle.std.specs.Prelude.{Result, Err, Ok}
use Rattle.lists.specs.Lists.{one}
use Rattle.sets.specs.Collections.{contained}
use Rattle.join_spec.specs.declared.Counts.{Counts}
use Rattle.inputs.specs.Input.{Input, left_sets, right_sets}
use Rattle.sets.specs.declared.Refusal.TheVariants.{Spent}
use Rattle.join_spec.specs.Query.{Settings, query_of}
use Rattle.join_spec.specs.Counting.{checks_of, counts_of}
use Rattle.join_spec.specs.Answer.{room_of, join_answer, pairs_after, RunCall}
use Rattle.join_spec.proofs.PairListLaws.{pair_occurs, pairs_rising, pair_occurs_lem, pair_list-rising}
use Rattle.join_spec.proofs.Accepted.{Accepted, Tests, accepted, joined, spent_only_above, spent_wherever_above}
use Rattle.join_spec.proofs.AcceptedRuns as laws
use Rattle.join_spec.proofs.AcceptedRuns.{pairs_of}
use Rattle.sets.specs.declared.Refusal.{Refusal}

module _ (i : Input) (s : Settings) {counts : Counts} {work before work' after : List ℕ}
    (call : RunCall i s work before work' after (Ok counts)) where
  joins : join_answer i s (room_of work before) ≡ Ok counts
  joins = sym call.answer

  -- the filled part is the pair list, and what lies beyond is as before
  pub call_filled : take (2 * counts.pairs) after ≡ pairs_of i
  call_filled =
      ap (take (2 * counts.pairs))
      (call.pairs ∙ ap (λ (r : Result Counts Refusal). pairs_after r (pairs_of i) before) call.answer)
      ∙ laws.filled_part i s (room_of work before) counts joins before

  pub call_rest : drop (2 * counts.pairs) after ≡ drop (2 * counts.pairs) before
  call_rest =
      ap (drop (2 * counts.pairs))
      (call.pairs ∙ ap (λ (r : Result Counts Refusal). pairs_after r (pairs_of i) before) call.answer)
      ∙ laws.rest_part i s (room_of work before) counts joins before

  -- it holds each contained pair of places once and nothing else, rising by left place and then right place
  pub call_once : (l r : ℕ)
      → pair_occurs l r (take (2 * counts.pairs) after)
      ≡ one (ltb l (length (left_sets i))
      && (ltb r (length (right_sets i)) && contained (get_or (left_sets i) l []) (get_or (right_sets i) r [])))
  call_once l r = ap (pair_occurs l r) call_filled ∙ pair_occurs_lem l r (left_sets i) (right_sets i)

  pub call_rising : pairs_rising (take (2 * counts.pairs) after) ≡ true
  call_rising = ap pairs_rising call_filled ∙ pair_list-rising (left_sets i) (right_sets i)

  -- each count is its definition's, and the sums hold
  pub call_counts : counts ≡ counts_of (query_of i s)
  call_counts = (accepted i s (room_of work before) counts joins).counted

  pub call_pairs : counts.pairs ≡ counts.by_path + counts.confirmed
  call_pairs = laws.pairs_by_path_or_confirmed i s (room_of work before) counts joins

  pub call_checks : counts.checks ≡ counts.dropped + (counts.false_drops + counts.confirmed)
  call_checks = laws.checks_dropped-false_or_confirmed i s (room_of work before) counts joins

  pub call_product : counts.checks ≤ length i.left.ends * length i.right.ends
  call_product = laws.checks_within_product i s (room_of work before) counts joins

  -- an accepted call stayed within its budget
  pub call_within : counts.checks ≤ s.budget
  call_within = laws.checks_within_budget i s (room_of work before) counts joins

-- a call that answers 8 had more checks than its budget
pub call_spent : (i : Input) (s : Settings) {work before work' after : List ℕ}
    → RunCall i s work before work' after (Err Spent)
    → s.budget < checks_of (query_of i s)
call_spent i s {work} {before} call = spent_only_above i s (room_of work before) (sym call.answer)

-- and one whose checks are above it answers 8 where nothing before is at fault
pub call_beyond : (i : Input) (s : Settings) {r : Result Counts Refusal} {work before work' after : List ℕ}
    → RunCall i s work before work' after r → Tests i s.limit s.ranks (length work) → s.budget < checks_of (query_of i s) → r ≡ Err Spent
call_beyond i s {r} {work} {before} call tests above =
    call.answer ∙ spent_wherever_above i s (room_of work before) tests above

-- a call without a cause to refuse is accepted, with the counts of the definitions
pub call_accepted : (i : Input) (s : Settings) {r : Result Counts Refusal} {work before work' after : List ℕ}
    → RunCall i s work before work' after r → (counts : Counts) → Accepted i s (room_of work before) counts → r ≡ Ok counts
call_accepted i s {r} {work} {before} call counts ok = call.answer ∙ joined i s (room_of work before) counts ok

-- two accepted calls over the same collections, whatever their settings, find the same pairs
module _ (i : Input) (s s' : Settings) {counts counts' : Counts} {work before v after work' before' v' after' : List ℕ}
    (one : RunCall i s work before v after (Ok counts)) (other : RunCall i s' work' before' v' after' (Ok counts')) where
  pub calls_count : counts.pairs ≡ counts'.pairs
  calls_count = laws.same_count i s s' (room_of work before) (room_of work' before') counts counts' (joins i s one) (joins i s' other)

  pub calls_pairs : take (2 * counts.pairs) after ≡ take (2 * counts'.pairs) after'
  calls_pairs = call_filled i s one ∙ sym (call_filled i s' other)
