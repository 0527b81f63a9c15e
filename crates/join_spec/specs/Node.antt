-- A node of the prefix tree stands for a path: a non-empty prefix of a left set in rank order. Here are the three numbers that the
-- merge rule sees at a node, and the rule. All sets are lists of rising ranks.
use Rattle.std.specs.Prelude.{ℕ, ◌-◌, ◌*◌, List, [], ◌∷◌, Bool, true, false, ◌&&◌, leb, pos, Float, length, take, get_or}
use Rattle.std.specs.Float.{binary64}
use Rattle.std.specs.Float.Ieee.{add, mul, lt, of_int}
use Rattle.lists.specs.Lists.{count, memb, subset, prefix}
use Rattle.join_spec.specs.declared.Rule.{Rule}
use Rattle.join_spec.specs.declared.Rule.TheVariants.{Merge, Check, Weighed}

-- whether a right set is seen at first rank r: it isn't empty and its least rank is at most r
unfoldable pub seen : ℕ → List ℕ → Bool
seen r [] = false
seen r (x ∷ xs) = leb x r

-- the first rank of a path, its last rank, and its ranks but the last
abbrev pub first_of : List ℕ → ℕ
first_of path = get_or path 0 0

abbrev pub last_of : List ℕ → ℕ
last_of path = get_or path (length path - 1) 0

abbrev pub front_of : List ℕ → List ℕ
front_of path = take (length path - 1) path

-- m: the left sets beginning with the path
abbrev pub beginning : List (List ℕ) → List ℕ → ℕ
beginning lefts path = count (prefix path) lefts

-- c: the seen right sets holding all ranks of the path but the last
abbrev pub candidates : List (List ℕ) → List ℕ → ℕ
candidates rights path = count (λ right. seen (first_of path) right && subset (front_of path) right) rights

-- t: the seen right sets holding the path's last rank
abbrev pub holders : List (List ℕ) → List ℕ → ℕ
holders rights path = count (λ right. seen (first_of path) right && memb (last_of path) right) rights

-- a whole number as a 64-bit float
abbrev pub whole : ℕ → Float
whole n = of_int binary64 (pos n)

-- whether the walk goes on at a node with these c, t and m. Each operation rounds once, in this order; a comparison with not-a-number
-- is false
unfoldable pub goes_on : Rule → ℕ → ℕ → ℕ → Bool
goes_on Merge c t m = true
goes_on Check c t m = false
goes_on (Weighed w) c t m =
    lt
    (add binary64 (add binary64 (mul binary64 w.a (whole c)) (mul binary64 w.b (whole t))) w.g)
    (mul binary64 w.h (whole (c * m)))

-- whether the walk goes on at the node of a path
unfoldable pub goes_on_at : Rule → List (List ℕ) → List (List ℕ) → List ℕ → Bool
goes_on_at rule lefts rights path = goes_on rule (candidates rights path) (holders rights path) (beginning lefts path)
