-- Ranges: how long one is, which numbers are in it and where, and its parts; counts over 0 .. n-1; tables `map f (upto n)`; and
-- counts and sums over a list, said of its places 0 .. length - 1.
use Prim.Native.Nat.{ℕ, zero, suc, ◌+◌, ◌≤◌, ◌<◌, ◌-◌}
use mathlib.Core.Path.{◌≡◌, refl, sym, ap, ◌∙◌}
use mathlib.Core.List.{List, [], ◌∷◌, ◌++◌, map, map-append}
use mathlib.Core.Logic.{◌≢◌}
use mathlib.Core.Bool.{Bool, true, ◌&&◌, and-true, and-false}
use native.Mathlib.Omega.{arith}
use native.Mathlib.Nat.{add-zero, zero-add}
use lib.Dec.{eqb, ltb}
use lib.ListN.{length, get_or, take, length-map}
use lib.Seq.{take_at}
use borrow.Author.Tests.{eqb-false, ltb-true, lt-ltb, le-ltb}
use Rattle.lists.specs.Lists.{one, count, sum, all, memb, range, upto}
use Rattle.lists.proofs.Bools.{by_test, same_test, or_left, or_right}
use Rattle.lists.proofs.Membership.{memb_cons, memb_nil}
use Rattle.lists.proofs.Throughout.{all_intro, all_make}
use Rattle.lists.proofs.Mapping.{map_at, map_agree}
use Rattle.lists.proofs.Counting.{count_append, count_map}
use Rattle.lists.proofs.Summing.{sum-map}

pub length-range : (from n : ℕ) → length (range from n) ≡ n
unfolding range
length-range from zero = refl
length-range from (suc n) = omega (arith, length-range (suc from) n)

pub range_lower : (from n x : ℕ) → memb x (range from n) ≡ true → from ≤ x
unfolding range
range_lower from zero x h = memb_nil x h
range_lower from (suc n) x h =
    memb_cons x from (range (suc from) n) h (λ e. omega arith) (λ m. omega (arith, range_lower (suc from) n x m))

pub range_upper : (from n x : ℕ) → memb x (range from n) ≡ true → x < from + n
unfolding range
range_upper from zero x h = memb_nil x h
range_upper from (suc n) x h =
    memb_cons x from (range (suc from) n) h (λ e. omega arith) (λ m. omega (arith, range_upper (suc from) n x m))

pub range-memb : (from n x : ℕ) → from ≤ x → x < from + n → memb x (range from n) ≡ true
unfolding range memb
range-memb from zero x low high = absurd (omega arith)
range-memb from (suc n) x low high =
    by_test (eqb x from)
    (λ e. or_left (eqb x from) (memb x (range (suc from) n)) e)
    (λ e. let other : from ≢ x = λ q. eqb-false x from e (sym q) in
    or_right (eqb x from) (memb x (range (suc from) n)) (range-memb (suc from) n x (omega arith) (omega arith)))

-- 0 .. n-1 holds just the numbers below n
pub memb-upto : (n x : ℕ) → memb x (upto n) ≡ ltb x n
memb-upto n x =
    same_test (memb x (upto n)) (ltb x n)
    (λ m. lt-ltb x n (omega (arith, range_upper 0 n x m)))
    (λ h. range-memb 0 n x (omega arith) (omega (arith, ltb-true x n h)))

pub all_upto : (n : ℕ) → all (λ i. ltb i n) (upto n) ≡ true
all_upto n = all_intro (λ i. ltb i n) (upto n) (λ i there. sym (memb-upto n i) ∙ there)

pub get_d_range : (from n i d : ℕ) → i < n → get_or (range from n) i d ≡ from + i
unfolding range
get_d_range from zero i d below = absurd (omega arith)
get_d_range from (suc n) zero d below = sym (add-zero from)
get_d_range from (suc n) (suc i) d below = get_d_range (suc from) n i d (omega arith) ∙ omega arith

pub get_d_upto : (n i d : ℕ) → i < n → get_or (upto n) i d ≡ i
get_d_upto n i d below = get_d_range 0 n i d below ∙ omega arith

pub range_append : (from m n : ℕ) → range from (m + n) ≡ range from m ++ range (from + m) n
unfolding range
range_append from zero n = rw (zero-add n, add-zero from)
range_append from (suc m) n =
    let more : suc m + n ≡ suc (m + n) = omega arith in
    let next : from + suc m ≡ suc from + m = omega arith in
    rw (more, next) (ap (λ (l : List ℕ). from ∷ l) (range_append (suc from) m n))

pub upto-split : (i n : ℕ) → i ≤ n → upto n ≡ upto i ++ range i (n - i)
upto-split i n within =
    let whole : n ≡ i + (n - i) = omega arith in
    let from_zero : 0 + i ≡ i = omega arith in
    ap upto whole ∙ range_append 0 i (n - i) ∙ ap (λ (k : ℕ). upto i ++ range k (n - i)) from_zero

pub upto_snoc : (n : ℕ) → upto (n + 1) ≡ upto n ++ (n ∷ [])
unfolding range
upto_snoc n =
    let from_zero : 0 + n ≡ n = omega arith in
    range_append 0 n 1 ∙ ap (λ (k : ℕ). upto n ++ (k ∷ [])) from_zero

-- a range that begins one later
pub range-later : (from n : ℕ) → range (suc from) n ≡ map suc (range from n)
unfolding range
range-later from zero = refl
range-later from (suc n) = ap (λ (l : List ℕ). suc from ∷ l) (range-later (suc from) n)

count_low : (p : ℕ → Bool) (i from n : ℕ) → from + n ≤ i → count (λ j. p j && ltb j i) (range from n) ≡ count p (range from n)
unfolding count range
count_low p i from zero below = refl
count_low p i from (suc n) below =
    rw (lt-ltb from i (omega arith), and-true (p from), count_low p i (suc from) n (omega arith))

count_high : (p : ℕ → Bool) (i from n : ℕ) → i ≤ from → count (λ j. p j && ltb j i) (range from n) ≡ 0
unfolding count range
count_high p i from zero past = refl
count_high p i from (suc n) past =
    rw (le-ltb from i past, and-false (p from), count_high p i (suc from) n (omega arith))

-- only the numbers below i count where the test asks for it
pub count-upto : (p : ℕ → Bool) (i n : ℕ) → i ≤ n → count (λ j. p j && ltb j i) (upto n) ≡ count p (upto i)
count-upto p i n within =
    ap (count (λ j. p j && ltb j i)) (upto-split i n within)
    ∙ count_append (λ j. p j && ltb j i) (upto i) (range i (n - i))
    ∙ omega (arith, count_low p i 0 i (omega arith), count_high p i i (n - i) (omega arith))

-- tables: the function of each place
pub length_table : {A : Type 0} (f : ℕ → A) (n : ℕ) → length (map f (upto n)) ≡ n
length_table f n = length-map (upto n) f ∙ length-range 0 n

pub get_d_table : {A : Type 0} (f : ℕ → A) (n i : ℕ) (d : A) → i < n → get_or (map f (upto n)) i d ≡ f i
get_d_table f n i d below = map_at f (upto n) i 0 d (omega (arith, length-range 0 n)) ∙ ap f (get_d_upto n i 0 below)

pub all_table : {A : Type 0} (p : A → Bool) (f : ℕ → A) (n : ℕ) → ((i : ℕ) → i < n → p (f i) ≡ true)
    → all p (map f (upto n)) ≡ true
all_table p f n h =
    all_make p (f 0) (map f (upto n))
    (λ i below. let inside : i < n = omega (arith, length_table f n) in ap p (get_d_table f n i (f 0) inside) ∙ h i inside)

pub table_snoc : {A : Type 0} (f : ℕ → A) (n : ℕ) → map f (upto (n + 1)) ≡ map f (upto n) ++ (f n ∷ [])
table_snoc f n = ap (map f) (upto_snoc n) ∙ map-append f (upto n) (n ∷ [])

pub take_table : {A : Type 0} (f : ℕ → A) (i n : ℕ) → i ≤ n → take i (map f (upto n)) ≡ map f (upto i)
take_table f i n within =
    ap (λ (l : List ℕ). take i (map f l)) (upto-split i n within)
    ∙ ap (take i) (map-append f (upto i) (range i (n - i)))
    ∙ take_at (map f (upto i)) (map f (range i (n - i))) i (length_table f i)

-- two functions that agree below n
pub table_same : {A : Type 0} (f g : ℕ → A) (n : ℕ) → ((i : ℕ) → i < n → f i ≡ g i) → map f (upto n) ≡ map g (upto n)
table_same f g n same = map_agree f g (upto n) (λ i m. same i (ltb-true i n (sym (memb-upto n i) ∙ m)))

-- a list by its places
module _ {A : Type 0} (d : A) where
  pub count_places : (p : A → Bool) (xs : List A) → count p xs ≡ count (λ i. p (get_or xs i d)) (upto (length xs))
  unfolding count range
  count_places p [] = refl
  count_places p (x ∷ xs) =
      ap (λ (n : ℕ). one (p x) + n)
      (count_places p xs ∙ sym (ap (count (λ i. p (get_or (x ∷ xs) i d))) (range-later 0 (length xs))
      ∙ count_map suc (λ i. p (get_or (x ∷ xs) i d)) (upto (length xs))))

  pub sum_places : (f : A → ℕ) (xs : List A) → sum f xs ≡ sum (λ i. f (get_or xs i d)) (upto (length xs))
  unfolding sum range
  sum_places f [] = refl
  sum_places f (x ∷ xs) =
      ap (λ (n : ℕ). f x + n)
      (sum_places f xs ∙ sym (ap (sum (λ i. f (get_or (x ∷ xs) i d))) (range-later 0 (length xs))
      ∙ sum-map suc (λ i. f (get_or (x ∷ xs) i d)) (upto (length xs))))
