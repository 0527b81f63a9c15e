-- What the contracts of the crates above say of lists: counting, summing, filtering, Bool membership, ranges, strictly
-- rising lists. Definitions only; the laws are in proofs/. `length`, `take`, `drop`, `set` and `replicate` are lib.ListN's.
use Rattle.std.specs.Prelude.{ℕ, zero, suc, ◌+◌, List, [], ◌∷◌, Bool, true, false, not, ◌&&◌, ◌||◌, eqb, ltb, take, drop}

-- 1 for true, 0 for false
abbrev pub one : Bool → ℕ
one true = 1
one false = 0

-- x in front of xs if the test holds, else xs
abbrev pub onto : {A : Type 0} → Bool → A → List A → List A
onto true x xs = x ∷ xs
onto false x xs = xs

-- how many elements pass the test
unfoldable pub count : {A : Type 0} → (A → Bool) → List A → ℕ
count p [] = 0
count p (x ∷ xs) = one (p x) + count p xs

-- the elements that pass the test, in their order
unfoldable pub keep : {A : Type 0} → (A → Bool) → List A → List A
keep p [] = []
keep p (x ∷ xs) = onto (p x) x (keep p xs)

-- whether every element passes; true of []
unfoldable pub all : {A : Type 0} → (A → Bool) → List A → Bool
all p [] = true
all p (x ∷ xs) = p x && all p xs

-- whether some element passes; false of []
unfoldable pub any : {A : Type 0} → (A → Bool) → List A → Bool
any p [] = false
any p (x ∷ xs) = p x || any p xs

-- the sum of f over the elements
unfoldable pub sum : {A : Type 0} → (A → ℕ) → List A → ℕ
sum f [] = 0
sum f (x ∷ xs) = f x + sum f xs

-- whether x is among the numbers
unfoldable pub memb : ℕ → List ℕ → Bool
memb x [] = false
memb x (y ∷ ys) = eqb x y || memb x ys

-- whether every number of xs is among ys
abbrev pub subset : List ℕ → List ℕ → Bool
subset xs ys = all (λ x. memb x ys) xs

-- n numbers: from, from + 1, ..
unfoldable pub range : ℕ → ℕ → List ℕ
range from zero = []
range from (suc n) = from ∷ range (suc from) n

-- 0 .. n-1
abbrev pub upto : ℕ → List ℕ
upto n = range 0 n

-- whether each number is greater than the one before, the first greater than x
unfoldable pub rising_after : ℕ → List ℕ → Bool
rising_after x [] = true
rising_after x (y ∷ ys) = ltb x y && rising_after y ys

-- whether the numbers strictly rise; true of []
unfoldable pub rising : List ℕ → Bool
rising [] = true
rising (x ∷ xs) = rising_after x xs

-- whether no number occurs twice
unfoldable pub distinct : List ℕ → Bool
distinct [] = true
distinct (x ∷ xs) = not (memb x xs) && distinct xs

-- whether p is a prefix of xs
unfoldable pub prefix : List ℕ → List ℕ → Bool
prefix [] xs = true
prefix (p ∷ ps) [] = false
prefix (p ∷ ps) (x ∷ xs) = eqb p x && prefix ps xs

-- the elements at f .. t-1
unfoldable pub slice : {A : Type 0} → ℕ → ℕ → List A → List A
slice f t l = drop f (take t l)
