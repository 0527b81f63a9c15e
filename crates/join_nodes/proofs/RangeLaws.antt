-- Ranges of left sets in the order: how many there are, their two parts, a range of one, where a range is cut by a test, and that a
-- node's left sets begin with its path.
use Prim.Native.Nat.{ℕ, suc, ◌+◌, ◌-◌, ◌≤◌}
use mathlib.Core.Path.{◌≡◌, sym, ap, subst, ◌∙◌}
use mathlib.Core.List.{List, [], ◌∷◌, ◌++◌}
use mathlib.Core.Bool.{Bool, true, not}
use native.Mathlib.Omega.{arith}
use borrow.Author.Tests.{not-true}
use lib.ListN.{length, take, drop}
use lib.Seq.{take_at, drop_at}
use Rattle.lists.specs.Lists.{all, prefix}
use Rattle.lists.proofs.Bools.{and_left, and_right}
use Rattle.lists.proofs.Filtering.{all_kept}
use Rattle.lists.proofs.Slices.{length-slice}
use Rattle.join_spec.specs.Query.{Query}
use Rattle.join_index.specs.Grouping.{left_at, order_from}
use Rattle.join_index.specs.declared.Layout.{Layout}
use Rattle.join_index.specs.Asking.{Index, RangeThere}
use Rattle.join_index.specs.Ranges.{lefts_in, lead, left_in}
use Rattle.join_index.proofs.Orders.{order_within, range_split as range-split-within, range_first, range_none, lead_pass, lead_fail, lead_nil}
use Rattle.join_nodes.specs.Visiting.{beginners}
use Rattle.join_nodes.proofs.Groups.{first_of}

-- how many left sets left_order[lo..hi] has
pub range_length : (lay : Layout) (q : Query) (w : List ℕ) (lo hi : ℕ) → Index lay q w → hi ≤ length q.lefts
    → length (lefts_in lay w lo hi) ≡ hi - lo
range_length lay q w lo hi index few =
    length-slice (lay.left_order + lo) (lay.left_order + hi) w (omega (arith, order_within index)) ∙ omega arith

-- a range in two parts
pub range_split : (lay : Layout) (q : Query) (w : List ℕ) (lo mid hi : ℕ) → Index lay q w → lo ≤ mid → mid ≤ hi
    → hi ≤ length q.lefts
    → lefts_in lay w lo hi ≡ lefts_in lay w lo mid ++ lefts_in lay w mid hi
range_split lay q w lo mid hi index low high few =
    range-split-within lay w lo mid hi low high (omega (arith, order_within index))

-- a range of one left set
pub range_one : {lay : Layout} {q : Query} {w : List ℕ} {lo hi : ℕ} → RangeThere lay q w lo hi → hi ≡ lo + 1
    → lefts_in lay w lo hi ≡ left_in lay w lo ∷ []
range_one {lay} {q} {w} {lo} {hi} there one =
    range_first there ∙ ap (λ (l : List ℕ). left_in lay w lo ∷ l) (range_none lay w (lo + 1) hi (omega arith))

-- the first of the left sets that begin with a path begins with it
pub begins_first : {lay : Layout} {q : Query} {w : List ℕ} {lo hi : ℕ} (path : List ℕ) (d : ℕ) → RangeThere lay q w lo hi
    → lefts_in lay w lo hi ≡ beginners q path d → prefix path (left_at q (left_in lay w lo)) ≡ true
begins_first {lay} {q} {w} {lo} {hi} path d there lefts =
    first_of (λ k. prefix path (left_at q k)) (left_in lay w lo) (lefts_in lay w (lo + 1) hi)
    (subst (λ (l : List ℕ). all (λ k. prefix path (left_at q k)) l ≡ true)
    (sym lefts ∙ range_first there)
    (all_kept (λ k. prefix path (left_at q k)) (order_from q (q.limit - d) d)))

-- the leading elements of a list whose first part passes and whose rest does not
lead_append : (p : ℕ → Bool) (xs ys : List ℕ) → all p xs ≡ true → all (λ y. not (p y)) ys ≡ true → lead p (xs ++ ys) ≡ length xs
unfolding all
lead_append p [] [] a b = lead_nil p
lead_append p [] (y ∷ ys) a b = lead_fail p y ys (not-true (p y) (and_left (not (p y)) (all (λ y. not (p y)) ys) b))
lead_append p (x ∷ xs) ys a b =
    lead_pass p x (xs ++ ys) (and_left (p x) (all p xs) a) ∙ ap suc (lead_append p xs ys (and_right (p x) (all p xs) a) b)

-- the range from lo up to hi is xs up to place mid, and ys from there on
pub record Cut (lay : Layout) (w : List ℕ) (lo mid hi : ℕ) (xs ys : List ℕ) : Type 0 where
  pub size : mid - lo ≡ length xs
  pub front : lefts_in lay w lo mid ≡ xs
  pub back : lefts_in lay w mid hi ≡ ys

-- a range is cut where a test first fails
pub cut : {lay : Layout} {q : Query} {w : List ℕ} {lo mid hi : ℕ} → RangeThere lay q w lo hi → (p : ℕ → Bool) (xs ys : List ℕ)
    → lefts_in lay w lo hi ≡ xs ++ ys → all p xs ≡ true → all (λ y. not (p y)) ys ≡ true
    → lo ≤ mid → mid ≤ hi → mid ≡ lo + lead p (lefts_in lay w lo hi) → Cut lay w lo mid hi xs ys
cut {lay} {q} {w} {lo} {mid} {hi} there p xs ys whole passes fails low high end =
    let led : lead p (lefts_in lay w lo hi) ≡ length xs = ap (lead p) whole ∙ lead_append p xs ys passes fails in
    let size : mid - lo ≡ length xs = omega (arith, end, led) in
    let long = range_length lay q w lo mid there.index (omega (arith, high, there.within)) in
    let parts = sym (range_split lay q w lo mid hi there.index low high there.within) ∙ whole in
    record {
      size = size;
      front =
          sym (take_at (lefts_in lay w lo mid) (lefts_in lay w mid hi) (mid - lo) long) ∙ ap (take (mid - lo)) parts
          ∙ take_at xs ys (mid - lo) (sym size);
      back =
          sym (drop_at (lefts_in lay w lo mid) (lefts_in lay w mid hi) (mid - lo) long) ∙ ap (drop (mid - lo)) parts
          ∙ drop_at xs ys (mid - lo) (sym size);
    }
