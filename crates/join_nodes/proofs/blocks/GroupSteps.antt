-- A range of left sets that are the groups of a list by their keys at some depth. The first of them begins a whole group, whose
-- end `range_end` finds, and what follows are the groups of greater keys. The left sets that end at the depth have key 0: they
-- come first, and `merged_end` finds where they end.
use Prim.Native.Nat.{ℕ, suc, ◌+◌, ◌-◌, ◌<◌}
use mathlib.Core.Path.{◌≡◌, refl, sym, ap, ◌∙◌}
use mathlib.Core.List.{List, ◌++◌}
use mathlib.Core.Bool.{true, not}
use native.Mathlib.Omega.{arith}
use borrow.Author.Tests.{leb-true, ne_eqb}
use lib.Dec.{eqb, leb}
use Rattle.lists.specs.Lists.{all, keep, prefix}
use Rattle.lists.proofs.Throughout.{all_weaken}
use Rattle.lists.proofs.Filtering.{all_kept}
use Rattle.join_spec.specs.Query.{Query}
use Rattle.counting_sort.specs.Groups.{groups_from}
use Rattle.join_index.specs.Grouping.{left_at, key_at, order_from}
use Rattle.join_index.specs.declared.Layout.{Layout}
use Rattle.words.specs.Words.{Word}
use Rattle.join_index.specs.Asking.{LeftThere, RangeThere}
use Rattle.join_index.specs.Ranges.{lefts_in, lead, left_in, RangeEnd}
use Rattle.join_index.proofs.Orders.{range_first, range_key, range_fail}
use Rattle.join_nodes.specs.Visiting.{beginners}
use Rattle.join_nodes.proofs.Groups.{FirstGroup, groups_first, groups_above}
use Rattle.join_index.proofs.GroupLaws.{keep_groups}
use Rattle.join_nodes.proofs.RangeLaws.{Cut, cut}
use Rattle.join_nodes.specs.blocks.Blocks.{MergedEnd}

-- no group from key x on has a lesser key
groups_other : (key : ℕ → ℕ) (x y n : ℕ) (l : List ℕ) → y < x → all (λ k. not (eqb (key k) y)) (groups_from key x n l) ≡ true
groups_other key x y n l less =
    all_weaken (λ k. leb x (key k)) (λ k. not (eqb (key k) y)) (groups_from key x n l)
    (λ k e. rw (ne_eqb (key k) y (λ same. omega (arith, leb-true x (key k) e))) refl)
    (groups_above key x n l)

-- the first of a range that is the groups of `rest` from key x on
module _ {lay : Layout} {q : Query} {w : List ℕ} {i hi : ℕ} (d x n : ℕ) (rest : List ℕ) (there : RangeThere lay q w i hi)
    (grouped : lefts_in lay w i hi ≡ groups_from (key_at q d) x n rest) where
  abbrev key : ℕ
  key = key_at q d (left_in lay w i)

  pub group_first : FirstGroup (key_at q d) x n rest (left_in lay w i)
  group_first =
      groups_first (key_at q d) x n rest (left_in lay w i) (lefts_in lay w (i + 1) hi)
      (sym grouped ∙ range_first there)

  pub group_cut : {j : ℕ} → RangeEnd lay w d i hi j
      → Cut lay w i j hi (keep (λ k. eqb (key_at q d k) key) rest) (groups_from (key_at q d) (suc key) (x + n - suc key) rest)
  group_cut end =
      cut there (λ k. eqb (key_at q d k) key) (keep (λ k. eqb (key_at q d k) key) rest)
      (groups_from (key_at q d) (suc key) (x + n - suc key) rest) (grouped ∙ group_first.split)
      (all_kept (λ k. eqb (key_at q d k) key) rest) (groups_other (key_at q d) (suc key) key (x + n - suc key) rest (omega arith))
      (omega (arith, end.more)) end.within (end.maximal q there)

-- those of a list that have no rank after depth d, and those that have one, by that rank
abbrev pub ended_at : Query → ℕ → List ℕ → List ℕ
ended_at q d rest = keep (λ k. eqb (key_at q d k) 0) rest

abbrev pub going_on : Query → ℕ → List ℕ → List ℕ
going_on q d rest = groups_from (key_at q d) 1 q.T rest

pub ended_keys : (q : Query) (d : ℕ) (rest : List ℕ) → all (λ k. eqb (key_at q d k) 0) (ended_at q d rest) ≡ true
ended_keys q d rest = all_kept (λ k. eqb (key_at q d k) 0) rest

pub going_keys : (q : Query) (d : ℕ) (rest : List ℕ) → all (λ k. not (eqb (key_at q d k) 0)) (going_on q d rest) ≡ true
going_keys q d rest = groups_other (key_at q d) 1 0 q.T rest (omega arith)

-- the left sets that begin with a path are those that end with it and then those that go on
pub beginners-grouped : (q : Query) (path : List ℕ) (d : ℕ) → d < q.limit
    → beginners q path d ≡ ended_at q d (beginners q path (suc d)) ++ going_on q d (beginners q path (suc d))
unfolding order_from groups_from
beginners-grouped q path d below =
    let more : q.limit - d ≡ suc (q.limit - suc d) = omega arith in
    ap (λ (n : ℕ). keep (λ k. prefix path (left_at q k)) (order_from q n d)) more
    ∙ keep_groups (key_at q d) (λ k. prefix path (left_at q k)) 0 (suc q.T) (order_from q (q.limit - suc d) (suc d))

pub ended_cut : {lay : Layout} {q : Query} {w : List ℕ} {d lo hi mid : ℕ} (rest : List ℕ) → RangeThere lay q w lo hi
    → lefts_in lay w lo hi ≡ ended_at q d rest ++ going_on q d rest → MergedEnd lay w d lo hi mid
    → Cut lay w lo mid hi (ended_at q d rest) (going_on q d rest)
ended_cut {q = q} {d = d} rest there whole end =
    cut there (λ k. eqb (key_at q d k) 0) (ended_at q d rest) (going_on q d rest) whole (ended_keys q d rest) (going_keys q d rest)
    end.low end.high (end.maximal q there)

-- where they end, the first left set's key read: at once where it goes on, else where the range of key 0 ends
module _ {lay : Layout} {w : List ℕ} {d lo hi k r : ℕ} (word : Word w (lay.left_order + lo) k)
    (read : (q : Query) → LeftThere lay q w k → r ≡ key_at q d k) where
  pub none_ended : lo < hi → (r ≡ 0 → ⊥) → MergedEnd lay w d lo hi lo
  none_ended some other =
      record {
        low = omega arith;
        high = omega (arith, some);
        maximal = λ q there.
            sym (range_fail there (λ k. eqb (key_at q d k) 0) lo there.some
            (ne_eqb (key_at q d (left_in lay w lo)) 0 (λ zero. other (range_key there d lo there.some word read ∙ zero))));
      }

  pub some_ended : {j : ℕ} → r ≡ 0 → RangeEnd lay w d lo hi j → MergedEnd lay w d lo hi j
  some_ended zero end =
      record {
        low = omega (arith, end.more);
        high = end.within;
        maximal = λ q there.
            end.maximal q there
            ∙ ap (λ (x : ℕ). lo + lead (λ k. eqb (key_at q d k) x) (lefts_in lay w lo hi))
            (sym (range_key there d lo there.some word read) ∙ zero);
      }
