-- When a join is accepted: exactly when no cause of the refusal table is there, and then with the definitions' counts. And the budget:
-- the walk is refused as spent exactly when the sum of checks is above it.
use Prim.Native.Nat.{ℕ, ◌*◌, ◌<◌, ◌≤◌}
use mathlib.Core.Path.{◌≡◌, refl, sym, ap, ◌∙◌}
use mathlib.Core.List.{List}
use mathlib.Core.Bool.{Bool, true, false, cond}
use native.Mathlib.Omega.{arith}
use lib.Dec.{ltb}
use borrow.Author.Tests.{ltb-true, ltb-false, lt-ltb, le-ltb}
use Rattle.std.specs.Prelude.{Result, Err, Ok, ⊤}
use Rattle.lists.proofs.Bools.{true-false}
use Rattle.sets.specs.Refusals.{refuse_if, unless, clears}
use Rattle.sets.specs.declared.Refusal.{Refusal}
use Rattle.sets.specs.declared.Refusal.TheVariants.{BadSettings, Spent, ShortPairs}
use Rattle.inputs.specs.Input.{Input, left_sets, right_sets}
use Rattle.inputs.specs.Tests.{sets_test, words_needed, work_test}
use Rattle.sets.proofs.Testing.{both_passed, refuse_passed, failed_same}
use Rattle.inputs.proofs.TestLaws.{BothGood, sets_good, good_sets, work_enough, enough_work, sets-keep, work_keep}
use Rattle.join_spec.specs.declared.Counts.{Counts}
use Rattle.join_spec.specs.PairList.{pair_count}
use Rattle.join_spec.specs.Query.{Settings, Query, query_of}
use Rattle.join_spec.specs.Counting.{counts_of, checks_of}
use Rattle.join_spec.specs.Answer.{Room, bad_settings, join_tests, walk_answer, join_answer}
use Rattle.join_spec.proofs.GoodSettings.{GoodSettings, good_settings, settings_good}

-- what holds where the tests before the walk are passed
pub record Tests (i : Input) (limit : ℕ) (ranks : List ℕ) (words : ℕ) : Type 0 where
  pub settings : GoodSettings i.T limit ranks
  pub good : BothGood i
  pub work : words_needed i ≤ words

pub tests_passed : (i : Input) (limit : ℕ) (ranks : List ℕ) (words : ℕ) → join_tests i limit ranks words ≡ Ok tt
    → Tests i limit ranks words
unfolding join_tests
tests_passed i limit ranks words e =
    let six = both_passed (refuse_if (bad_settings i.T limit ranks) BadSettings) _ e in
    let five = both_passed (sets_test i) (work_test i words) six.1 in
    record {
      settings = good_settings i.T limit ranks (refuse_passed (bad_settings i.T limit ranks) _ six.0);
      good = sets_good i five.0;
      work = work_enough i words five.1;
    }

pub passed_tests : (i : Input) (limit : ℕ) (ranks : List ℕ) (words : ℕ) → Tests i limit ranks words
    → join_tests i limit ranks words ≡ Ok tt
unfolding join_tests
passed_tests i limit ranks words t =
    rw (settings_good i.T limit ranks t.settings, good_sets i t.good, enough_work i words t.work)

-- what the tests before the walk refuse leaves every list as it was
pub early_keeps : (i : Input) (limit : ℕ) (ranks : List ℕ) (words : ℕ) {why : Refusal} → join_tests i limit ranks words ≡ Err why
    → clears why ≡ false
unfolding join_tests
early_keeps i limit ranks words {why} e =
    go (bad_settings i.T limit ranks) (sets_test i) (work_test i words) (sets-keep i) (work_keep i words) e
  where
    go : (bad : Bool) (sets work : Result ⊤ Refusal) → ((w : Refusal) → sets ≡ Err w → clears w ≡ false)
        → ((w : Refusal) → work ≡ Err w → clears w ≡ false)
        → unless Err (refuse_if bad BadSettings) (unless Err sets work) ≡ Err why → clears why ≡ false
    go true sets work keeps kept h = ap clears (sym (failed_same BadSettings why h))
    go false (Ok _) work keeps kept h = kept why h
    go false (Err w) work keeps kept h = keeps why h

-- an answer that is no refusal passed its tests
unrefused : (t : Result ⊤ Refusal) (answer : Result Counts Refusal) (counts : Counts) → unless Err t answer ≡ Ok counts
    → (t ≡ Ok tt) × (answer ≡ Ok counts)
unrefused (Ok _) answer counts e = (refl, e)
unrefused (Err why) answer counts e = let z : ◌≡◌ {A = ℕ} 0 1 = cc in absurd (omega arith)

passed : (b : Bool) (why : Refusal) (answer : Result Counts Refusal) (counts : Counts) → cond b (Err why) answer ≡ Ok counts
    → (b ≡ false) × (answer ≡ Ok counts)
passed true why answer counts e = let z : ◌≡◌ {A = ℕ} 0 1 = cc in absurd (omega arith)
passed false why answer counts e = (refl, e)

joined_counts : (a b : Counts) → ◌≡◌ {A = Result Counts Refusal} (Ok a) (Ok b) → b ≡ a
joined_counts a b e = cc

is_spent : (b c : Bool) (counts : Counts)
    → cond b (Err Spent) (cond c (Err ShortPairs) (Ok counts)) ≡ Err Spent → b ≡ true
is_spent true c counts e = refl
is_spent false true counts e = let z : ◌≡◌ {A = ℕ} 0 1 = cc in absurd (omega arith)
is_spent false false counts e = let z : ◌≡◌ {A = ℕ} 0 1 = cc in absurd (omega arith)

-- the walk's answer: 8 exactly where the sum of checks is above the budget
module _ (q : Query) (budget places : ℕ) where
  pub spent_above : budget < checks_of q → walk_answer q budget places ≡ Err Spent
  unfolding walk_answer
  spent_above h =
      ap (λ (over : Bool).
      cond over (Err Spent)
      (cond (ltb places (2 * pair_count q.lefts q.rights)) (Err ShortPairs) (Ok (counts_of q))))
      (lt-ltb budget (checks_of q) h)

  pub above_spent : walk_answer q budget places ≡ Err Spent → budget < checks_of q
  unfolding walk_answer
  above_spent e =
      ltb-true budget (checks_of q)
      (is_spent (ltb budget (checks_of q)) (ltb places (2 * pair_count q.lefts q.rights)) (counts_of q) e)

  -- and within it the walk is accepted where the places suffice
  pub within_joined : checks_of q ≤ budget → 2 * pair_count q.lefts q.rights ≤ places
      → walk_answer q budget places ≡ Ok (counts_of q)
  unfolding walk_answer
  within_joined few enough =
      rw (le-ltb budget (checks_of q) few, le-ltb places (2 * pair_count q.lefts q.rights) enough)

-- what holds where a join is accepted: no cause of the refusal table is there, and the counts are the definitions'
pub record Accepted (i : Input) (s : Settings) (room : Room) (counts : Counts) : Type 0 where
  pub tests : Tests i s.limit s.ranks room.words
  pub within : checks_of (query_of i s) ≤ s.budget
  pub places : 2 * pair_count (left_sets i) (right_sets i) ≤ room.places
  pub counted : counts ≡ counts_of (query_of i s)

module _ (i : Input) (s : Settings) (room : Room) where
  -- the answer after tests that are passed
  pub answer_tested : Tests i s.limit s.ranks room.words → join_answer i s room ≡ walk_answer (query_of i s) s.budget room.places
  unfolding join_answer
  answer_tested t = rw (passed_tests i s.limit s.ranks room.words t)

  -- and after one that fails
  pub answer_refused : {why : Refusal} → join_tests i s.limit s.ranks room.words ≡ Err why → join_answer i s room ≡ Err why
  unfolding join_answer
  answer_refused e = rw e

  pub accepted : (counts : Counts) → join_answer i s room ≡ Ok counts → Accepted i s room counts
  unfolding join_answer walk_answer
  accepted counts e =
      let early = unrefused (join_tests i s.limit s.ranks room.words) _ counts e in
      let eight = passed (ltb s.budget (checks_of (query_of i s))) Spent _ counts early.1 in
      let nine = passed (ltb room.places (2 * pair_count (left_sets i) (right_sets i))) ShortPairs _ counts eight.1 in
      record {
        tests = tests_passed i s.limit s.ranks room.words early.0;
        within = ltb-false s.budget (checks_of (query_of i s)) eight.0;
        places = ltb-false room.places (2 * pair_count (left_sets i) (right_sets i)) nine.0;
        counted = joined_counts (counts_of (query_of i s)) counts nine.1;
      }

  -- and where all of it holds, the join is accepted
  pub joined : (counts : Counts) → Accepted i s room counts → join_answer i s room ≡ Ok counts
  joined counts a =
      answer_tested a.tests
      ∙ within_joined (query_of i s) s.budget room.places a.within a.places
      ∙ ap Ok (sym a.counted)

  -- 8 is returned only where the sum of checks is above the budget
  pub spent_only_above : join_answer i s room ≡ Err Spent → s.budget < checks_of (query_of i s)
  unfolding join_answer
  spent_only_above e = go (join_tests i s.limit s.ranks room.words) refl e
    where
      go : (t : Result ⊤ Refusal) → join_tests i s.limit s.ranks room.words ≡ t
          → unless Err t (walk_answer (query_of i s) s.budget room.places) ≡ Err Spent
          → s.budget < checks_of (query_of i s)
      go (Ok _) is h = above_spent (query_of i s) s.budget room.places h
      go (Err why) is h = absurd (true-false refl (early_keeps i s.limit s.ranks room.words (is ∙ ap Err (same_refusal why Spent h))))
        where
          same_refusal : (a b : Refusal) → ◌≡◌ {A = Result Counts Refusal} (Err a) (Err b) → a ≡ b
          same_refusal a b e = cc

  -- and wherever that is so and nothing before it is at fault
  pub spent_wherever_above : Tests i s.limit s.ranks room.words → s.budget < checks_of (query_of i s) → join_answer i s room ≡ Err Spent
  spent_wherever_above tests above =
      answer_tested tests ∙ spent_above (query_of i s) s.budget room.places above
