-- The order of items before the join: where it is accepted its rank list is the program's, and where it is refused the join of
-- the same input under the program's settings is refused for the same cause.
use Prim.Native.Nat.{ℕ}
use mathlib.Core.Path.{◌≡◌, refl, sym, ap, ◌∙◌}
use mathlib.Core.List.{List}
use mathlib.Core.Bool.{Bool, true, false, ◌||◌}
use native.Mathlib.Omega.{arith}
use borrow.Author.Tests.{eq-eqb}
use lib.Dec.{ltb}
use lib.ListN.{length}
use Rattle.std.specs.Prelude.{Result, Err, Ok, ⊤}
use Rattle.sets.specs.Limits.{max_items}
use Rattle.sets.specs.Refusals.{refuse_if, unless}
use Rattle.sets.specs.declared.Refusal.{Refusal}
use Rattle.sets.specs.declared.Refusal.TheVariants.{BadSettings}
use Rattle.inputs.specs.Input.{Input, left_sets, right_sets}
use Rattle.inputs.specs.Tests.{sets_test, work_test}
use Rattle.item_order_spec.specs.Order.{rank_table, order_test, order_answer, order_ranks, ranks_after, OrderCall}
use Rattle.item_order_spec.proofs.Ranks.{ranks_permutation}
use Rattle.join_spec.specs.PairList.{pair_list}
use Rattle.join_spec.specs.Answer.{bad_settings, join_tests}
use Rattle.join_spec.proofs.Accepted.{answer_refused}
use Rattle.tag_file.specs.declared.Repeats.{Repeats}
use Rattle.text.specs.Lines.{refusal_line}
use Rattle.text.specs.answer_text.AnswerText.{answer_text}
use Rattle.join_text.specs.JoinText.{program_room, work_words, program_settings, join_text}

-- a refused order failed its test
failed_test : (t : Result ⊤ Refusal) (why : Refusal) → ◌≡◌ {A = Result ⊤ Refusal} (Err why) (unless Err t (Ok tt)) → t ≡ Err why
failed_test (Ok _) why e = let z : ◌≡◌ {A = ℕ} 0 1 = cc in absurd (omega arith)
failed_test (Err w) why e = cc

module _ (i : Input) where
  abbrev table : List ℕ
  table = rank_table false i.T (left_sets i) (right_sets i)

  -- the program's settings are refused only where T is too great
  settings_bad : bad_settings i.T 2 table ≡ ltb max_items i.T
  unfolding bad_settings
  settings_bad = rw (ranks_permutation false i.T (left_sets i) (right_sets i)) (by_size (ltb max_items i.T))
    where
      by_size : (b : Bool) → (b || false) ≡ b
      by_size true = refl
      by_size false = refl

  -- what the order's test fails for the join's tests fail for, too
  tests_same : (places words : ℕ) (why : Refusal) → places ≡ i.T → order_test i places ≡ Err why
      → join_tests i 2 table words ≡ Err why
  unfolding order_test join_tests
  tests_same places words why long e =
      rw settings_bad (by_size (ltb max_items i.T) (rw (eq-eqb places i.T long) at e))
    where
      later : (t : Result ⊤ Refusal) → t ≡ Err why → unless Err t (work_test i words) ≡ Err why
      later t e = rw e

      by_size : (large : Bool) → unless Err (refuse_if large BadSettings) (sets_test i) ≡ Err why
          → unless Err (refuse_if large BadSettings) (unless Err (sets_test i) (work_test i words)) ≡ Err why
      by_size true e = e
      by_size false e = later (sets_test i) e

  module _ {ranks after : List ℕ} {answer : Result ⊤ Refusal} (call : OrderCall i false ranks after answer) where
    pub ordered_ranks : answer ≡ Ok tt → after ≡ table
    unfolding order_ranks
    ordered_ranks e =
        call.ranks ∙ ap (λ (a : Result ⊤ Refusal). ranks_after a table ranks) (sym call.answered ∙ e)

    pub refused_order : {why : Refusal} → answer ≡ Err why → length ranks ≡ i.T
        → (repeats : Repeats) (left_numbers right_numbers : List ℕ)
        → refusal_line why ≡ join_text repeats left_numbers right_numbers i (program_settings i)
    unfolding order_answer join_text
    refused_order {why} e long repeats left_numbers right_numbers =
        let failed = failed_test (order_test i (length ranks)) why (sym e ∙ call.answered) in
        ap (answer_text repeats left_numbers right_numbers (pair_list (left_sets i) (right_sets i)))
        (sym (answer_refused i (program_settings i) program_room (tests_same (length ranks) work_words why long failed)))
