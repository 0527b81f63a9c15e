-- Laws of the order's test, answer and rank list: the case of each return, and the call.
use mathlib.Core.Path.{◌≡◌, sym, ap, ◌∙◌}
use mathlib.Core.List.{List}
use mathlib.Core.Bool.{Bool, true, false, not}
use Prim.Native.Nat.{ℕ}
use borrow.Author.Tests.{eq-eqb, ne_eqb}
use lib.Dec.{eqb, ltb}
use lib.ListN.{length}
use Rattle.std.specs.Prelude.{Result, Err, Ok, ⊤}
use Rattle.sets.specs.Limits.{max_items}
use Rattle.sets.specs.Refusals.{clears, refuse_if, unless}
use Rattle.sets.specs.Lent.{after_refusal}
use Rattle.sets.specs.declared.Refusal.{Refusal}
use Rattle.sets.specs.declared.Refusal.TheVariants.{BadSettings}
use Rattle.inputs.specs.Input.{Input, left_sets, right_sets}
use Rattle.inputs.specs.Tests.{items_test, sets_test}
use Rattle.sets.proofs.Testing.{failed_same}
use Rattle.inputs.proofs.TestLaws.{sets-keep}
use Rattle.item_order_spec.specs.Order.{order_test, order_answer, order_ranks, ranks_after, rank_table, OrderCall}

module _ (i : Input) (places : ℕ) where
  -- the case of each return
  pub test_items : {why : Refusal} → items_test i.T ≡ Err why → Err why ≡ order_test i places
  unfolding order_test
  test_items failed = rw failed

  module _ (few : items_test i.T ≡ Ok tt) where
    pub test_length : (places ≡ i.T → ⊥) → Err BadSettings ≡ order_test i places
    unfolding order_test
    test_length other = rw (few, ne_eqb places i.T other)

    pub test_sets : {r : Result ⊤ Refusal} → places ≡ i.T → r ≡ sets_test i → r ≡ order_test i places
    unfolding order_test
    test_sets long e = rw (few, eq-eqb places i.T long) e

  -- its refusals change nothing
  test_keep : (why : Refusal) → order_test i places ≡ Err why → clears why ≡ false
  unfolding order_test
  test_keep why e = go (ltb max_items i.T) (not (eqb places i.T)) e
    where
      go : (large other : Bool)
          → unless Err (refuse_if large BadSettings) (unless Err (refuse_if other BadSettings) (sets_test i)) ≡ Err why
          → clears why ≡ false
      go true other e = ap clears (sym (failed_same BadSettings why e))
      go false true e = ap clears (sym (failed_same BadSettings why e))
      go false false e = sets-keep i why e

-- the call: an input that is refused, and one that passed its test
module _ (i : Input) (falling : Bool) (ranks : List ℕ) where
  kept_after : (why : Refusal) → clears why ≡ false → ranks ≡ after_refusal why ranks
  kept_after why keeps = rw keeps

  -- the rank list by the answer
  ranks_by : (answer : Result ⊤ Refusal) → order_answer i (length ranks) ≡ answer
      → order_ranks i falling ranks ≡ ranks_after answer (rank_table falling i.T (left_sets i) (right_sets i)) ranks
  unfolding order_ranks
  ranks_by answer e =
      ap (λ (a : Result ⊤ Refusal). ranks_after a (rank_table falling i.T (left_sets i) (right_sets i)) ranks) e

  pub call_refused : (why : Refusal) → order_test i (length ranks) ≡ Err why → OrderCall i falling ranks ranks (Err why)
  unfolding order_answer
  call_refused why failed =
      let answer : order_answer i (length ranks) ≡ Err why = rw failed in
      record {
        answered = sym answer;
        ranks = kept_after why (test_keep i (length ranks) why failed) ∙ sym (ranks_by (Err why) answer);
      }

  pub call_ordered : (ranks' : List ℕ) → order_test i (length ranks) ≡ Ok tt
      → ranks' ≡ rank_table falling i.T (left_sets i) (right_sets i) → OrderCall i falling ranks ranks' (Ok tt)
  unfolding order_answer
  call_ordered ranks' passed e =
      let answer : order_answer i (length ranks) ≡ Ok tt = rw passed in
      record { answered = sym answer; ranks = e ∙ sym (ranks_by (Ok tt) answer) }
