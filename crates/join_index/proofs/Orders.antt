-- The order of the left sets: every place in it is that of a left set, and a range begins with its first place. How far a range with
-- one key reaches.
use Prim.Native.Nat.{ℕ, suc, ◌+◌, ◌≤◌, ◌<◌}
use mathlib.Core.Path.{◌≡◌, refl, sym, ap, subst, ◌∙◌}
use mathlib.Core.List.{List, ◌∷◌, [], ◌++◌}
use mathlib.Core.Bool.{Bool, true, false}
use native.Mathlib.Omega.{arith}
use lib.ListN.{length, get_or}
use Rattle.lists.specs.Lists.{slice}
use Rattle.lists.proofs.Membership.{memb_at}
use Rattle.lists.proofs.Slices.{slice_past, slice_next, slice-split}
use Rattle.join_spec.specs.Query.{Query}
use Rattle.join_index.specs.Grouping.{key_at, order_of}
use Rattle.join_index.specs.declared.Layout.{Layout}
use Rattle.join_index.proofs.Ordering.{order_member}
use Rattle.words.specs.Words.{Word}
use Rattle.join_index.specs.Asking.{Index, LeftThere, RangeThere}
use Rattle.join_index.specs.Ranges.{lead, left_in, lefts_in}
use Rattle.join_index.proofs.Reading.{holds_length, holds_at}

module _ {lay : Layout} {q : Query} {w : List ℕ} (index : Index lay q w) where
  pub order_within : lay.left_order + length q.lefts ≤ length w
  order_within = let o = index.ground.ordered in omega (arith, index.room, o.within)

  pub order_left : (i : ℕ) → i < length q.lefts → LeftThere lay q w (left_in lay w i)
  order_left i below =
      let o = index.ground.ordered in
      let size : length (order_of q) ≡ length q.lefts = omega (arith, holds_length o index.room) in
      let here : get_or (order_of q) i 0 ≡ left_in lay w i = holds_at o index.room i (omega arith) in
      let member = memb_at (order_of q) i 0 (omega arith) in
      record { index = index; below = omega (arith, order_member q q.limit 0 (get_or (order_of q) i 0) member) }

-- the left set at a place of a range, as it was read, and its key
module _ {lay : Layout} {q : Query} {w : List ℕ} {lo hi : ℕ} (there : RangeThere lay q w lo hi) where
  pub range_left : {k : ℕ} (i : ℕ) → i < hi → Word w (lay.left_order + i) k → LeftThere lay q w k
  range_left i below word =
      subst (λ (n : ℕ). LeftThere lay q w n) (sym word.is) (order_left there.index i (omega (arith, there.within)))

  pub range_key : {k r : ℕ} (d i : ℕ) → i < hi → Word w (lay.left_order + i) k → ((q : Query) → LeftThere lay q w k → r ≡ key_at q d k)
      → r ≡ key_at q d (left_in lay w i)
  range_key d i below word is = is q (range_left i below word) ∙ ap (key_at q d) word.is

  pub range_within : lay.left_order + hi ≤ length w
  range_within = omega (arith, order_within there.index, there.within)

-- a range by its first place
pub range_none : (lay : Layout) (w : List ℕ) (i hi : ℕ) → hi ≤ i → lefts_in lay w i hi ≡ []
range_none lay w i hi h = slice_past (lay.left_order + i) (lay.left_order + hi) w (omega arith)

pub range_next : (lay : Layout) (w : List ℕ) (i hi : ℕ) → i < hi → lay.left_order + hi ≤ length w
    → lefts_in lay w i hi ≡ left_in lay w i ∷ lefts_in lay w (i + 1) hi
range_next lay w i hi h within =
    let next : lay.left_order + i + 1 ≡ lay.left_order + (i + 1) = omega arith in
    slice_next (lay.left_order + i) (lay.left_order + hi) w (omega arith) within
    ∙ ap (λ (f : ℕ). left_in lay w i ∷ slice f (lay.left_order + hi) w) next

-- a range in two parts
pub range_split : (lay : Layout) (w : List ℕ) (lo i hi : ℕ) → lo ≤ i → i ≤ hi → lay.left_order + hi ≤ length w
    → lefts_in lay w lo hi ≡ lefts_in lay w lo i ++ lefts_in lay w i hi
range_split lay w lo i hi low high within =
    slice-split (lay.left_order + lo) (lay.left_order + i) (lay.left_order + hi) w (omega arith) (omega arith) (omega arith)

pub lead_pass : {A : Type 0} (p : A → Bool) (x : A) (xs : List A) → p x ≡ true → lead p (x ∷ xs) ≡ suc (lead p xs)
unfolding lead
lead_pass p x xs h = rw h

pub lead_fail : {A : Type 0} (p : A → Bool) (x : A) (xs : List A) → p x ≡ false → lead p (x ∷ xs) ≡ 0
unfolding lead
lead_fail p x xs h = rw h

pub lead_nil : {A : Type 0} (p : A → Bool) → lead p [] ≡ 0
unfolding lead
lead_nil p = refl

-- the first left set of a range, and the others
pub range_first : {lay : Layout} {q : Query} {w : List ℕ} {i hi : ℕ} → RangeThere lay q w i hi
    → lefts_in lay w i hi ≡ left_in lay w i ∷ lefts_in lay w (i + 1) hi
range_first {lay} {q} {w} {i} {hi} there = range_next lay w i hi there.some (range_within there)

-- the leading left sets of a range, counted from place j on
module _ {lay : Layout} {q : Query} {w : List ℕ} {lo hi : ℕ} (there : RangeThere lay q w lo hi) (p : ℕ → Bool) (j : ℕ) where
  pub range_pass : j < hi → p (left_in lay w j) ≡ true → j + lead p (lefts_in lay w j hi) ≡ j + 1 + lead p (lefts_in lay w (j + 1) hi)
  range_pass more h =
      let e =
      ap (lead p) (range_next lay w j hi more (range_within there)) ∙ lead_pass p (left_in lay w j) (lefts_in lay w (j + 1) hi) h in
      omega (arith, e)

  pub range_fail : j < hi → p (left_in lay w j) ≡ false → j + lead p (lefts_in lay w j hi) ≡ j
  range_fail more h =
      let e =
      ap (lead p) (range_next lay w j hi more (range_within there)) ∙ lead_fail p (left_in lay w j) (lefts_in lay w (j + 1) hi) h in
      omega (arith, e)

  pub range_past : hi ≤ j → j + lead p (lefts_in lay w j hi) ≡ j
  range_past h = let e = ap (lead p) (range_none lay w j hi h) ∙ lead_nil p in omega (arith, e)
