-- The pairs by path of left sets that end at a node: one left set's, those of many, and how the counters grow by them.
use Prim.Native.Nat.{ℕ, ◌*◌}
use mathlib.Core.Path.{◌≡◌, refl, sym, ap, ◌∙◌}
use mathlib.Core.List.{List, [], ◌∷◌}
use mathlib.Core.Bool.{Bool, true, false, cond}
use native.Mathlib.Omega.{arith}
use native.Mathlib.Nat.{one-mul, suc-mul, zero-mul, mul-zero}
use lib.ListN.{length}
use Rattle.lists.specs.Lists.{count, sum}
use Rattle.lists.proofs.Counting.{count_none, count-true}
use Rattle.join_spec.specs.Walk.{Outcome, by_path}
use Rattle.join_spec.specs.Counting.{is_by_path}
use Rattle.join_spec.specs.Kinds.{is_of, check_kinds}
use Rattle.join_check.specs.Counters.{checks_in}
use Rattle.join_check.specs.declared.Tally.{Tally}
use Rattle.join_check.proofs.Tallying.{tallied_sum}
use Rattle.join_nodes.specs.Rows.{path_pairs}
use Rattle.join_nodes.specs.Visiting.{Merged}

pub sum_const : (c : ℕ) (l : List ℕ) → sum (λ k. c) l ≡ length l * c
unfolding sum
sum_const c [] = sym (zero-mul c)
sum_const c (x ∷ xs) = omega (arith, sum_const c xs, suc-mul (length xs) c)

-- each of the m left sets pairs with each of the c candidates
pub paths_all : (m c : ℕ) → path_pairs m c is_by_path ≡ m * c
unfolding path_pairs
paths_all m c = refl

-- one left set by path with every candidate, and many of them
pub paths_one : (is : Outcome → Bool) (list : List ℕ) → count (λ s. is by_path) list ≡ path_pairs 1 (length list) is
unfolding path_pairs
paths_one is list = go (is by_path)
  where
    go : (b : Bool) → count (λ s. b) list ≡ cond b (1 * length list) 0
    go true = count-true list ∙ sym (one-mul (length list))
    go false = count_none (λ s. false) list (λ s. refl)

pub paths_many : (is : Outcome → Bool) (c : ℕ) (lefts : List ℕ)
    → sum (λ k. path_pairs 1 c is) lefts ≡ path_pairs (length lefts) c is
unfolding path_pairs
paths_many is c lefts = go (is by_path)
  where
    go : (b : Bool) → sum (λ k. cond b (1 * c) 0) lefts ≡ cond b (length lefts * c) 0
    go true = sum_const (1 * c) lefts ∙ ap (λ (n : ℕ). length lefts * n) (one-mul c)
    go false = sum_const 0 lefts ∙ mul-zero (length lefts)

-- the counters after them
module _ {m c : ℕ} {tally r : Tally} (merged : Merged m c tally r) where
  pub merged_checks : checks_in r ≡ checks_in tally
  merged_checks = omega (arith, tallied_sum check_kinds merged.tallied, none)
    where
      none : sum (λ kind. path_pairs m c (is_of kind)) check_kinds ≡ 0
      none = unfold path_pairs sum in refl
