-- What the ranks are, for any two collections: a permutation of 0 .. T-1, which a join accepts; and in the order of frequency,
-- equal frequencies by item.
use mathlib.Core.Path.{◌≡◌, sym, ap, subst, ◌∙◌}
use mathlib.Core.List.{List}
use mathlib.Core.Bool.{Bool, true, false, cond, or-true}
use Prim.Native.Nat.{ℕ, ◌+◌, ◌<◌, ◌≤◌}
use native.Mathlib.Omega.{arith}
use borrow.Author.Tests.{lt-ltb, eq-eqb}
use lib.Dec.{ltb}
use lib.ListN.{length, get_or}
use Rattle.std.specs.Prelude.{Result, Ok, ⊤}
use Rattle.lists.specs.Lists.{count, memb, upto}
use Rattle.lists.proofs.Counting.{count_same, count_bound}
use Rattle.lists.proofs.Ranges.{length_table, get_d_table}
use Rattle.lists.proofs.CountingSort.{key_before, rank_below, rank_less, rank_apart}
use Rattle.sets.specs.Ordered.{is_permutation}
use Rattle.inputs.specs.Input.{Input, left_sets, right_sets}
use Rattle.sets.proofs.Permutation.{permutation_make}
use Rattle.item_order_spec.specs.Order.{frequency, comes_before, rank_of, rank_table, order_ranks, ranks_after, OrderCall}
use Rattle.item_order_spec.specs.Keys.{sort_key}
use Rattle.item_order_spec.proofs.Keys.{key_before_lem}
use Rattle.sets.specs.declared.Refusal.{Refusal}

module _ (falling : Bool) (T : ℕ) (left right : List (List ℕ)) where
  -- the rank of an item is its rank by key
  abbrev frequency_key : ℕ → ℕ
  frequency_key i = sort_key falling (length left + length right) (frequency left right i)

  few : (i : ℕ) → frequency left right i ≤ length left + length right
  few i = omega (arith, count_bound (memb i) left, count_bound (memb i) right)

  same_order : (i j : ℕ) → key_before frequency_key i j ≡ comes_before falling (frequency left right) i j
  same_order i j = key_before_lem (length left + length right) (frequency left right) few falling i j

  same_rank : (i : ℕ) → count (key_before frequency_key i) (upto T) ≡ rank_of falling (frequency left right) T i
  same_rank i =
      count_same (key_before frequency_key i) (comes_before falling (frequency left right) i) (upto T) (same_order i)

  rank_at : (i : ℕ) → i < T → get_or (rank_table falling T left right) i 0 ≡ rank_of falling (frequency left right) T i
  unfolding rank_table
  rank_at i below = get_d_table (rank_of falling (frequency left right) T) T i 0 below

  length_ranks : length (rank_table falling T left right) ≡ T
  unfolding rank_table
  length_ranks = length_table (rank_of falling (frequency left right) T) T

  pub ranks_permutation : is_permutation T (rank_table falling T left right) ≡ true
  ranks_permutation =
      permutation_make T (rank_table falling T left right) length_ranks
      (λ i below. omega (arith, rank_at i below, same_rank i, rank_below frequency_key T i below))
      (λ i j less below same.
      rank_apart frequency_key T i j less below
      (same_rank i ∙ sym (rank_at i (omega arith)) ∙ same ∙ rank_at j below ∙ sym (same_rank j)))

  -- an item that comes before another has the lower rank
  ranks_ordered : (i j : ℕ) → i < T → j < T → comes_before falling (frequency left right) i j ≡ true
      → get_or (rank_table falling T left right) j 0 < get_or (rank_table falling T left right) i 0
  ranks_ordered i j here there e =
      omega (
        arith,
        rank_at i here,
        rank_at j there,
        same_rank i,
        same_rank j,
        rank_less frequency_key T i j there (same_order i j ∙ e),
      )

-- rank rises with frequency, or falls with it, and equal frequencies go by item
module _ (T : ℕ) (left right : List (List ℕ)) (i j : ℕ) (here : i < T) (there : j < T) where
  pub rank_rises : frequency left right j < frequency left right i
      → get_or (rank_table false T left right) j 0 < get_or (rank_table false T left right) i 0
  rank_rises less =
      ranks_ordered false T left right i j here there (rw (lt-ltb (frequency left right j) (frequency left right i) less))

  pub rank_falls : frequency left right i < frequency left right j
      → get_or (rank_table true T left right) j 0 < get_or (rank_table true T left right) i 0
  rank_falls less =
      ranks_ordered true T left right i j here there (rw (lt-ltb (frequency left right i) (frequency left right j) less))

  pub rank_tie : (falling : Bool) → frequency left right j ≡ frequency left right i → j < i
      → get_or (rank_table falling T left right) j 0 < get_or (rank_table falling T left right) i 0
  rank_tie falling same less =
      let a = frequency left right j in
      let b = frequency left right i in
      ranks_ordered falling T left right i j here there
      (rw (eq-eqb a b same, lt-ltb j i less) (or-true (cond falling (ltb b a) (ltb a b))))

-- so an accepted order gives a rank table that the join accepts
pub order_permutation : {i : Input} {falling : Bool} {before after : List ℕ} → OrderCall i falling before after (Ok tt)
    → is_permutation i.T after ≡ true
unfolding order_ranks
order_permutation {i} {falling} {before} {after} call =
    subst (λ (l : List ℕ). is_permutation i.T l ≡ true)
    (ap (λ (a : Result ⊤ Refusal). ranks_after a (rank_table falling i.T (left_sets i) (right_sets i)) before) call.answered
    ∙ sym call.ranks)
    (ranks_permutation falling i.T (left_sets i) (right_sets i))
