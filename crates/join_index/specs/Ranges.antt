-- Inner: the left sets that are together in the order.
use Rattle.std.specs.Prelude.{ℕ, suc, ◌+◌, ◌≤◌, ◌<◌, ◌≡◌, List, [], ◌∷◌, Bool, true, false, eqb, get_or}
use Rattle.lists.specs.Lists.{slice}
use Rattle.join_spec.specs.Query.{Query}
use Rattle.join_index.specs.Grouping.{key_at}
use Rattle.join_index.specs.declared.Layout.{Layout}
use Rattle.join_index.specs.Asking.{RangeThere}

-- one more if the test holds, else none
abbrev pub further : Bool → ℕ → ℕ
further true n = suc n
further false n = 0

-- how many elements pass the test before the first that fails
unfoldable pub lead : {A : Type 0} → (A → Bool) → List A → ℕ
lead p [] = 0
lead p (x ∷ xs) = further (p x) (lead p xs)

-- the left set at a place of the order
abbrev pub left_in : Layout → List ℕ → ℕ → ℕ
left_in lay w i = get_or w (lay.left_order + i) 0

-- the left sets in left_order[i..hi]
abbrev pub lefts_in : Layout → List ℕ → ℕ → ℕ → List ℕ
lefts_in lay w i hi = slice (lay.left_order + i) (lay.left_order + hi) w

-- r is where the range of left_order[i..hi] ends that begins at i, of left sets with the same key at depth d
pub record RangeEnd (lay : Layout) (w : List ℕ) (d i hi r : ℕ) : Type 0 where
  pub more : i < r
  pub within : r ≤ hi
  pub maximal :
      (q : Query) → RangeThere lay q w i hi
      → r ≡ i + lead (λ k. eqb (key_at q d k) (key_at q d (left_in lay w i))) (lefts_in lay w i hi)
