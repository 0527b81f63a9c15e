-- The counts of a query as sums over the order of its left sets: each left set counts once, an empty one adds nothing, and any other
-- its row from depth 1 on.
use Prim.Native.Nat.{ℕ, zero, suc, ◌+◌, ◌-◌, ◌<◌}
use mathlib.Core.Path.{◌≡◌, refl, sym, ap, ap₂, ◌∙◌}
use mathlib.Core.List.{List, [], ◌∷◌}
use mathlib.Core.Bool.{Bool, true, false, cond, ◌||◌}
use native.Mathlib.Omega.{arith}
use lib.Dec.{eqb}
use lib.ListN.{length, get_or}
use borrow.Author.Tests.{le-leb, lt-ltb}
use Rattle.lists.specs.Lists.{count, keep, sum, upto}
use Rattle.lists.proofs.Bools.{and_both}
use Rattle.lists.proofs.Counting.{count_same, count_none}
use Rattle.lists.proofs.Filtering.{sum-keep}
use Rattle.lists.proofs.Summing.{sum_append, sum_same, sum-add}
use Rattle.lists.proofs.Ranges.{sum_places, count_places}
use Rattle.join_spec.specs.Query.{Query}
use Rattle.join_spec.specs.Walk.{Outcome, by_path, Ending, ending, ending_in, outcome, check, outcome_after, ending_from, goes}
use Rattle.join_spec.specs.Counting.{total}
use Rattle.join_spec.proofs.Outcomes.{outcome_ended}
use Rattle.counting_sort.specs.Groups.{groups_from}
use Rattle.join_index.specs.Grouping.{left_at, right_at, key_at, order_from}
use Rattle.join_index.proofs.Ordering.{key_at_below}
use Rattle.join_nodes.specs.Rows.{row, outcome_from}
use Rattle.join_nodes.proofs.Groups.{within, within_zero, within_suc, apart}
use Rattle.join_nodes.proofs.RowLaws.{MetOnly}
use Rattle.join_nodes.proofs.blocks.BlockLaws.{key_ended, key_longer}

cond_or : (a b : Bool) (n : ℕ) → (a ≡ true → b ≡ false) → cond (a || b) n 0 ≡ cond a n 0 + cond b n 0
cond_or true b n other = rw (other refl) (omega arith)
cond_or false b n other = omega arith

module _ (key : ℕ → ℕ) (f : ℕ → ℕ) where
  sum_groups : (x n : ℕ) (l : List ℕ) → sum f (groups_from key x n l) ≡ sum (λ a. cond (within key x n a) (f a) 0) l
  unfolding groups_from sum
  sum_groups x zero l = sym (sum_same (λ a. cond (within key x 0 a) (f a) 0) (λ a. 0) l (λ a. rw (within_zero key x a)) ∙ none l)
    where
      none : (m : List ℕ) → sum (λ a. 0) m ≡ sum f []
      none [] = refl
      none (a ∷ m) = omega (arith, none m)
  sum_groups x (suc n) l =
      sum_append f (keep (λ a. eqb (key a) x) l) (groups_from key (suc x) n l)
      ∙ ap₂ (λ (a b : ℕ). a + b) (sum-keep f (λ a. eqb (key a) x) l) (sum_groups (suc x) n l)
      ∙ sym (sum-add (λ a. cond (eqb (key a) x) (f a) 0) (λ a. cond (within key (suc x) n a) (f a) 0) l)
      ∙ sum_same (λ a. cond (eqb (key a) x) (f a) 0 + cond (within key (suc x) n a) (f a) 0)
      (λ a. cond (within key x (suc n) a) (f a) 0) l
      (λ a. sym (cond_or (eqb (key a) x) (within key (suc x) n a) (f a) (apart key x n a))
      ∙ ap (λ (b : Bool). cond b (f a) 0) (within_suc key x n a))

-- a sum over the order is a sum over the places
pub sum_order : (q : Query) (f : ℕ → ℕ) (n d : ℕ) → sum f (order_from q n d) ≡ sum f (upto (length q.lefts))
unfolding order_from
sum_order q f zero d = refl
sum_order q f (suc n) d =
    sum_groups (key_at q d) f 0 (suc q.T) (order_from q n (suc d))
    ∙ sum_same (λ a. cond (within (key_at q d) 0 (suc q.T) a) (f a) 0) f (order_from q n (suc d))
    (λ a. ap (λ (b : Bool). cond b (f a) 0)
    (and_both (le-leb 0 (key_at q d a) (omega arith)) (lt-ltb (key_at q d a) (0 + suc q.T) (omega (arith, key_at_below q d a)))))
    ∙ sum_order q f n (suc d)

-- how many right sets have such an outcome with the left set at place k
pub start : (Outcome → Bool) → Query → ℕ → ℕ
start is q k = count (λ s. is (outcome q (get_or q.lefts k []) (get_or q.rights s []))) (upto (length q.rights))

pub total_order : (is : Outcome → Bool) (q : Query) (n d : ℕ) → total is q ≡ sum (start is q) (order_from q n d)
unfolding total start
total_order is q n d =
    sum_places [] (λ left. count (λ right. is (outcome q left right)) q.rights) q.lefts
    ∙ sum_same (λ k. count (λ right. is (outcome q (get_or q.lefts k []) right)) q.rights) (start is q)
    (upto (length q.lefts))
    (λ k. count_places [] (λ right. is (outcome q (get_or q.lefts k []) right)) q.rights)
    ∙ sym (sum_order q (start is q) n d)

nonempty : (l : List ℕ) {A : Type 0} → 0 < length l → ((r : ℕ) (rest : List ℕ) → l ≡ r ∷ rest → A) → A
nonempty [] h k = absurd (omega arith)
nonempty (r ∷ rest) h k = k r rest refl

empty : (l : List ℕ) → length l ≡ 0 → l ≡ []
empty [] e = refl
empty (x ∷ xs) e = absurd (omega arith)

-- an empty left set meets no right set
pub start_empty : (is : Outcome → Bool) → MetOnly is → (q : Query) (k : ℕ) → eqb (key_at q 0 k) 0 ≡ true → start is q k ≡ 0
unfolding start left_at
start_empty is met q k none =
    let gone : left_at q k ≡ [] = empty (left_at q k) (key_ended q 0 k none (omega arith)) in
    count_none (λ s. is (outcome q (get_or q.lefts k []) (get_or q.rights s []))) (upto (length q.rights))
    (λ s. ap is (outcome_ended q (get_or q.lefts k []) (get_or q.rights s []) gone) ∙ met)

-- any other has its row from depth 1 on
pub start_row : (is : Outcome → Bool) (q : Query) (k : ℕ) → eqb (key_at q 0 k) 0 ≡ false → start is q k ≡ row is q 1 k
unfolding start row outcome outcome_from ending_in goes left_at right_at
start_row is q k some =
    count_same (λ s. is (outcome q (get_or q.lefts k []) (get_or q.rights s []))) (λ s. is (outcome_from q 1 k s))
    (upto (length q.rights))
    (λ s.
    ap (λ (e : Ending).
    is (outcome_after e (left_at q k) (right_at q s) by_path (check (get_or q.lefts k []) (get_or q.rights s []))))
    (nonempty (left_at q k) (key_longer q 0 k some) (λ r rest e. begins (left_at q k) r rest e)))
  where
    begins : (l : List ℕ) (r : ℕ) (rest : List ℕ) → l ≡ r ∷ rest
        → ending (goes q) q.limit l ≡ ending_from (goes q) (q.limit - 1) 1 l
    begins l r rest e = unfold ending in rw e refl
