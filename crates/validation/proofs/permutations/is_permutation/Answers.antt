-- `validation::permutations::is_permutation` meets its contract: the length, then that no rank is too high, then the pass with a table of marks.
use mathlib.Core.Path.{◌≡◌, sym, ap, ◌∙◌}
use mathlib.Core.List.{List}
use mathlib.Core.Bool.{Bool, true, false}
use Prim.Native.Nat.{ℕ, ◌≤◌}
use native.Mathlib.Omega.{arith}
use borrow.Author.Tests.{eq-eqb, ne_eqb, ltb-true, lt-ltb}
use lib.Dec.{eqb, leb, ltb}
use lib.ListN.{length, replicate, length-replicate}
use lib.Seq.{take-length}
use Rattle.lists.specs.Lists.{all, count, distinct, slice}
use Rattle.lists.proofs.Throughout.{all_weaken}
use Rattle.validation.proofs.falls.Passes.{high_none}
use Rattle.sets.specs.Limits.{max_items}
use Rattle.sets.specs.Ordered.{is_permutation}
use Rattle.validation.proofs.permutations.is_permutation.Goals as goal
use Rattle.validation.proofs.permutations.is_permutation.Goals.{Else-count_high-ne0}

-- no rank of the whole list is T or more exactly where all are below
low : (T : ℕ) (ranks : List ℕ) → eqb (count (leb T) (slice 0 (length ranks) ranks)) 0 ≡ all (λ r. ltb r T) ranks
unfolding slice
low T ranks = rw (take-length ranks) (high_none T ranks)

-- a table of zeros is clear, and has a mark for each rank below its length
clear : (n : ℕ) → ◌≡◌ {A = List ℕ} (replicate n 0) (replicate (length (replicate {A = ℕ} n 0)) 0)
clear n = ap (λ (m : ℕ). replicate m 0) (sym (length-replicate {A = ℕ} n 0))

room : (T n : ℕ) (ranks : List ℕ) → T ≤ n → all (λ r. ltb r T) ranks ≡ true
    → all (λ r. ltb r (length (replicate {A = ℕ} n 0))) ranks ≡ true
room T n ranks few below =
    rw (length-replicate {A = ℕ} n 0)
    (all_weaken (λ r. ltb r T) (λ r. ltb r n) ranks (λ r e. lt-ltb r n (omega (arith, ltb-true r T e))) below)

pub returns-then-ranks-t : goal.returns-then-ranks-t
unfolding is_permutation
returns-then-ranks-t c = rw (ne_eqb (length c.args.ranks.now) c.args.t c.if-ranks-t.true)

pub returns-then-count_high-ne0 : goal.returns-then-count_high-ne0
unfolding is_permutation
returns-then-count_high-ne0 c =
    let a = c.args in
    let high : eqb (count (leb a.t) (slice 0 (length a.ranks.now) a.ranks.now)) 0 ≡ false =
    ne_eqb (count (leb a.t) (slice 0 (length a.ranks.now) a.ranks.now)) 0
    (λ none. c.if-count_high-ne0.true (c.count_high.ensures ∙ none))
    in
    rw (eq-eqb (length a.ranks.now) a.t (omega arith), ← low a.t a.ranks.now, high)

-- behind that test all ranks are below T
below : (c : Else-count_high-ne0) → let a = c.args in all (λ r. ltb r a.t) a.ranks.now ≡ true
below c =
    let a = c.args in
    sym (low a.t a.ranks.now)
    ∙ eq-eqb (count (leb a.t) (slice 0 (length a.ranks.now) a.ranks.now)) 0
    (sym c.count_high.ensures ∙ c.if-count_high-ne0.false)

-- where they are, the pass over them decides the rest
decided : (c : Else-count_high-ne0) (r : Bool)
    → let a = c.args in r ≡ distinct a.ranks.now → r ≡ is_permutation a.t a.ranks.now
unfolding is_permutation
decided c r is =
    let a = c.args in
    rw (eq-eqb (length a.ranks.now) a.t (omega arith), below c) is

pub all_distinct-requires : goal.all_distinct-requires
all_distinct-requires c =
    let a = c.args in
    record {
      clear = clear 512;
      room = room a.t 512 a.ranks.now (omega arith) (below (goal.at.all_distinct-requires c).Else-count_high-ne0);
    }

pub returns-then-t-le512 : goal.returns-then-t-le512
returns-then-t-le512 c = decided (goal.at.returns-then-t-le512 c).Else-count_high-ne0 c.all_distinct.result c.all_distinct.ensures

pub all_distinct-requires-2 : goal.all_distinct-requires-2
all_distinct-requires-2 c =
    let a = c.args in
    record {
      clear = clear max_items;
      room = room a.t max_items a.ranks.now (omega arith) (below (goal.at.all_distinct-requires-2 c).Else-count_high-ne0);
    }

pub returns : goal.returns
returns c = decided (goal.at.returns c).Else-count_high-ne0 c.all_distinct-2.result c.all_distinct-2.ensures
