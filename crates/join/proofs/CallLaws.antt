-- A call of the run: a failed test is its answer and changes nothing; else its answer is the walk's, and the work list is free.
use Prim.Native.Nat.{ℕ, ◌*◌}
use mathlib.Core.Path.{◌≡◌, refl, sym, ap, ◌∙◌}
use mathlib.Core.List.{List}
use mathlib.Core.Bool.{Bool, true, false, cond}
use lib.Dec.{ltb}
use lib.ListN.{length}
use Rattle.std.specs.Prelude.{Result, Err, Ok}
use Rattle.lists.proofs.Bools.{true-false}
use Rattle.sets.specs.declared.Refusal.{Refusal}
use Rattle.sets.specs.declared.Refusal.TheVariants.{Spent, ShortPairs}
use Rattle.inputs.specs.Input.{Input, left_sets, right_sets}
use Rattle.join_spec.specs.PairList.{pair_list, pair_count}
use Rattle.join_spec.specs.Query.{Settings, Query, query_of}
use Rattle.join_spec.specs.Counting.{counts_of, checks_of}
use Rattle.join_spec.specs.Answer.{room_of, join_tests, walk_answer, pairs_after, work_kept, RunCall}
use Rattle.join_spec.proofs.Accepted.{tests_passed, answer_tested, answer_refused, early_keeps}
use Rattle.join_spec.specs.declared.Counts.{Counts}

-- a walk's answer never leaves the work list as it was by promise
pub walk_uses : (q : Query) (budget room : ℕ) {r : Result Counts Refusal} → r ≡ walk_answer q budget room → work_kept r ≡ false
unfolding walk_answer
walk_uses q budget room is = ap work_kept is ∙ go (ltb budget (checks_of q)) (ltb room (2 * pair_count q.lefts q.rights))
  where
    go : (a b : Bool) → work_kept (cond a (Err Spent) (cond b (Err ShortPairs) (Ok (counts_of q)))) ≡ false
    go true b = refl
    go false true = refl
    go false false = refl

module _ (i : Input) (s : Settings) (work pairs : List ℕ) where
  pub call_refused : {why : Refusal} → join_tests i s.limit s.ranks (length work) ≡ Err why
      → RunCall i s work pairs work pairs (Err why)
  call_refused {why} e =
      record {
        answer = sym (answer_refused i s (room_of work pairs) e);
        pairs = sym (rw (early_keeps i s.limit s.ranks (length work) e));
        work_size = refl;
        work_kept_lem = λ kept. refl;
      }

  pub call_walked : {r : Result Counts Refusal} {work' pairs' : List ℕ} → join_tests i s.limit s.ranks (length work) ≡ Ok tt
      → r ≡ walk_answer (query_of i s) s.budget (length pairs)
      → pairs' ≡ pairs_after r (pair_list (left_sets i) (right_sets i)) pairs → length work' ≡ length work
      → RunCall i s work pairs work' pairs' r
  call_walked passed answer after size =
      record {
        answer = answer ∙ sym (answer_tested i s (room_of work pairs) (tests_passed i s.limit s.ranks (length work) passed));
        pairs = after;
        work_size = size;
        work_kept_lem = λ kept. true-false kept (walk_uses (query_of i s) s.budget (length pairs) answer);
      }
