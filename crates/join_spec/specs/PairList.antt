-- The result of a join in plain words: every pair of a left place and a right place whose left set is contained in the right one, by
-- left place, then right place. No setting occurs here. The pairs are over elements of any kind and any test of two of them, so that a
-- set may come to carry more than its items.
use Rattle.std.specs.Prelude.{ℕ, suc, List, [], ◌∷◌, ◌++◌, Bool, true, false}
use Rattle.lists.specs.Lists.{sum, count}
use Rattle.sets.specs.Collections.{contained}

-- the pairs, with (l, r) in front if the test holds
abbrev pub onto_pair : Bool → ℕ → ℕ → List ℕ → List ℕ
onto_pair true l r pairs = l ∷ r ∷ pairs
onto_pair false l r pairs = pairs

-- the pairs of left place l with the right elements from place r on that pass the test
unfoldable pub row_from : {B : Type 0} → (B → Bool) → ℕ → ℕ → List B → List ℕ
row_from test l r [] = []
row_from test l r (right ∷ rights) = onto_pair (test right) l r (row_from test l (suc r) rights)

-- the pairs of the left elements from place l on
unfoldable pub pairs_from : {A B : Type 0} → (A → B → Bool) → ℕ → List A → List B → List ℕ
pairs_from test l [] rights = []
pairs_from test l (left ∷ lefts) rights = row_from (test left) l 0 rights ++ pairs_from test (suc l) lefts rights

-- how many pairs of elements pass the test
abbrev pub count_pairs : {A B : Type 0} → (A → B → Bool) → List A → List B → ℕ
count_pairs test lefts rights = sum (λ left. count (test left) rights) lefts

-- the pair list, two numbers a pair
abbrev pub pair_list : List (List ℕ) → List (List ℕ) → List ℕ
pair_list lefts rights = pairs_from contained 0 lefts rights

-- the number of contained pairs
abbrev pub pair_count : List (List ℕ) → List (List ℕ) → ℕ
pair_count lefts rights = count_pairs contained lefts rights
