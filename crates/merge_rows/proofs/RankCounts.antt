-- Ranks of a set, counted: a set in rank order has its items' ranks, and the first of them are those below which few stand; the ranks
-- that some set of marks has below a bound; and how far one count of keys below a bound is from the next.
use Prim.Native.Nat.{ℕ, zero, suc, ◌+◌, ◌<◌, ◌≤◌}
use mathlib.Core.Path.{◌≡◌, refl, sym, ap, subst, ◌∙◌}
use mathlib.Core.List.{List, [], ◌∷◌, map}
use mathlib.Core.Bool.{Bool, true, false, ◌&&◌, ◌||◌, and-true, and-false, and-or_distrib_right}
use native.Mathlib.Omega.{arith}
use borrow.Author.Tests.{eqb-true, ltb-true, lt-ltb, le-ltb}
use lib.Dec.{eqb, ltb, leb}
use lib.ListN.{length, take, drop, get_or, take-append-drop}
use Rattle.std.specs.Int.{from_bool}
use Rattle.lists.specs.Lists.{one, count, any, memb, distinct, rising, upto}
use Rattle.lists.proofs.Bools.{by_test, same_test, and_left, and_right, or_left, eqb_comm}
use Rattle.lists.proofs.Counting.{count_none, count_same, count-true, count_map, count_or, count_agree, count-distinct, count_less}
use Rattle.lists.proofs.Distinct.{distinct_head, distinct_tail, distinct-map}
use Rattle.lists.proofs.Filtering.{count-keep}
use Rattle.lists.proofs.Membership.{memb_nil, memb_append, memb-map, memb_at, memb_place, Place}
use Rattle.lists.proofs.Ranges.{memb-upto}
use Rattle.lists.proofs.Rising.{rising_least, rising_tail, rising-range, rising-distinct, rising_after-memb, rising_after_at}
use Rattle.lists.proofs.Throughout.{all_elim}
use Rattle.sets.specs.Limits.{max_items, max_set_length}
use Rattle.sets.specs.Collections.{good_items}
use Rattle.sets.specs.Ordered.{is_permutation, ordered}
use Rattle.sets.proofs.Ordered.{below}
use Rattle.sets.proofs.Permutation.{permutation_below, permutation_injective}
use Rattle.merge_rows.specs.FirstRanks.{Ranked}

-- a test as a number
pub number_of : (b : Bool) → from_bool b ≡ one b
number_of true = refl
number_of false = refl

-- what is among the first is in the list
pub memb-take : (x n : ℕ) (l : List ℕ) → memb x (take n l) ≡ true → memb x l ≡ true
memb-take x n l there =
    ap (memb x) (sym (take-append-drop n l)) ∙ memb_append x (take n l) (drop n l)
    ∙ or_left (memb x (take n l)) (memb x (drop n l)) there

-- numbers of which none is below r
none_below : (r : ℕ) (l : List ℕ) → ((y : ℕ) → memb y l ≡ true → r ≤ y) → count (λ x. ltb x r) l ≡ 0
none_below r l high =
    count_agree (λ x. ltb x r) (λ x. false) l (λ y m. le-ltb y r (high y m)) ∙ count_none (λ (x : ℕ). false) l (λ x. refl)

next_less : (c n : ℕ) → ltb c n ≡ ltb (1 + c) (suc n)
next_less c n =
    same_test (ltb c n) (ltb (1 + c) (suc n))
    (λ less. lt-ltb (1 + c) (suc n) (omega (arith, ltb-true c n less)))
    (λ less. lt-ltb c n (omega (arith, ltb-true (1 + c) (suc n) less)))

-- the members among the first n of a rising list are those below which fewer than n stand
pub rising_first : (n : ℕ) (l : List ℕ) (r : ℕ) → rising l ≡ true → memb r l ≡ true
    → memb r (take n l) ≡ ltb (count (λ x. ltb x r) l) n
unfolding memb count rising
rising_first n [] r rises there = memb_nil r there
rising_first zero (x ∷ xs) r rises there = sym (le-ltb (count (λ x. ltb x r) (x ∷ xs)) 0 (omega arith))
rising_first (suc n) (x ∷ xs) r rises there =
    by_test (eqb r x)
    (λ e.
    let none = none_below r (x ∷ xs) (λ y m. omega (arith, rising_least x xs rises y m, eqb-true r x e)) in
    rw e (sym (lt-ltb (count (λ x. ltb x r) (x ∷ xs)) (suc n) (omega (arith, none)))))
    (λ e.
    let inside : memb r xs ≡ true = rw e at there in
    rw (e, lt-ltb x r (rising_after-memb x xs rises r inside))
    (rising_first n xs r (rising_tail x xs rises) inside ∙ next_less (count (λ x. ltb x r) xs) n))

-- and as many stand below a number as before it
pub rising_index : (l : List ℕ) → rising l ≡ true → (i : ℕ) → i < length l → count (λ x. ltb x (get_or l i 0)) l ≡ i
unfolding count rising
rising_index [] rises i below = absurd (omega arith)
rising_index (x ∷ xs) rises zero below = none_below x (x ∷ xs) (λ y m. rising_least x xs rises y m)
rising_index (x ∷ xs) rises (suc i) below =
    rw (lt-ltb x (get_or xs i 0) (rising_after_at x xs rises i (omega arith)))
    (omega (arith, rising_index xs (rising_tail x xs rises) i (omega arith)))

-- one number among 0 .. n-1
once : (p : ℕ → Bool) (n x : ℕ) → count (λ j. eqb j x && p j) (upto n) ≡ one (ltb x n && p x)
once p n x =
    count_same (λ j. eqb j x && p j) (λ j. eqb x j && p x) (upto n) turned ∙ times (p x)
  where
    turned : (j : ℕ) → (eqb j x && p j) ≡ (eqb x j && p x)
    turned j =
        by_test (eqb j x)
        (λ e. let same : j ≡ x = eqb-true j x e in rw same)
        (λ e. rw (e, eqb_comm x j, e))

    times : (b : Bool) → count (λ j. eqb x j && b) (upto n) ≡ one (ltb x n && b)
    times true =
        count_same (λ j. eqb x j && true) (eqb x) (upto n) (λ j. and-true (eqb x j))
        ∙ count-distinct x (upto n) (rising-distinct (upto n) (rising-range 0 n))
        ∙ ap one (memb-upto n x ∙ sym (and-true (ltb x n)))
    times false =
        count_none (λ j. eqb x j && false) (upto n) (λ j. and-false (eqb x j)) ∙ ap one (sym (and-false (ltb x n)))

-- the numbers below n that are in a list without repeats and pass
pub count_among : (p : ℕ → Bool) (n : ℕ) (l : List ℕ) → distinct l ≡ true
    → count (λ j. memb j l && p j) (upto n) ≡ count (λ x. ltb x n && p x) l
unfolding memb count
count_among p n [] d = count_none (λ (j : ℕ). false) (upto n) (λ j. refl)
count_among p n (x ∷ xs) d =
    count_same (λ j. (eqb j x || memb j xs) && p j) (λ j. (eqb j x && p j) || (memb j xs && p j)) (upto n)
    (λ j. and-or_distrib_right (eqb j x) (memb j xs) (p j))
    ∙ count_or (λ j. eqb j x && p j) (λ j. memb j xs && p j) (upto n) apart
    ∙ omega (arith, once p n x, count_among p n xs (distinct_tail x xs d))
  where
    apart : (j : ℕ) → (eqb j x && p j) ≡ true → (memb j xs && p j) ≡ false
    apart j e =
        let same : j ≡ x = eqb-true j x (and_left (eqb j x) (p j) e) in
        ap (λ (b : Bool). b && p j) (subst (λ (y : ℕ). memb y xs ≡ false) (sym same) (distinct_head x xs d))

-- a good set has items below T, and none twice
pub good_below : (T : ℕ) (set : List ℕ) → good_items T set ≡ true → below T set ≡ true
good_below T set good =
    and_left (below T set) (rising set) (and_right (leb (length set) max_set_length) (below T set && rising set) good)

pub good_item : (T : ℕ) (set : List ℕ) → good_items T set ≡ true → (x : ℕ) → memb x set ≡ true → x < T
good_item T set good x there = ltb-true x T (all_elim (λ (i : ℕ). ltb i T) set (good_below T set good) x there)

pub good_distinct : (T : ℕ) (set : List ℕ) → good_items T set ≡ true → distinct set ≡ true
good_distinct T set good =
    rising-distinct set
    (and_right (below T set) (rising set) (and_right (leb (length set) max_set_length) (below T set && rising set) good))

module _ (T : ℕ) (ranks : List ℕ) (permutation : is_permutation T ranks ≡ true) (set : List ℕ) (good : good_items T set ≡ true) where
  pub rank_low : (x : ℕ) → memb x set ≡ true → get_or ranks x 0 < T
  rank_low x there = permutation_below T ranks permutation x (good_item T set good x there)

  -- two items of a set have the same rank only where they are the same
  pub rank_same : (x y : ℕ) → memb x set ≡ true → memb y set ≡ true → get_or ranks x 0 ≡ get_or ranks y 0 → x ≡ y
  rank_same x y mx my e =
      permutation_injective T ranks permutation x y (good_item T set good x mx) (good_item T set good y my) e

  pub ranks_distinct : distinct (map (λ x. get_or ranks x 0) set) ≡ true
  ranks_distinct = distinct-map (λ x. get_or ranks x 0) set rank_same (good_distinct T set good)

  -- counting over a set in rank order is counting over its ranks
  pub count-ordered : (p : ℕ → Bool) → count p (ordered T ranks set) ≡ count (λ x. p (get_or ranks x 0)) set
  unfolding ordered
  count-ordered p =
      count-keep (λ r. any (λ x. eqb (get_or ranks x 0) r) set) p (upto T)
      ∙ count_same (λ r. any (λ x. eqb (get_or ranks x 0) r) set && p r) (λ r. memb r (map (λ x. get_or ranks x 0) set) && p r) (upto T)
      (λ r. ap (λ (b : Bool). b && p r) (sym (memb-map (λ x. get_or ranks x 0) r set)))
      ∙ count_among p T (map (λ x. get_or ranks x 0) set) ranks_distinct
      ∙ count_map (λ x. get_or ranks x 0) (λ r. ltb r T && p r) set
      ∙ count_agree (λ x. ltb (get_or ranks x 0) T && p (get_or ranks x 0)) (λ x. p (get_or ranks x 0)) set
      (λ x there. ap (λ (b : Bool). b && p (get_or ranks x 0)) (lt-ltb (get_or ranks x 0) T (rank_low x there)))

  pub length_ranked : length (ordered T ranks set) ≡ length set
  length_ranked = sym (count-true (ordered T ranks set)) ∙ count-ordered (λ r. true) ∙ count-true set

-- an item of a set and its rank
pub record RankAt (ranks set : List ℕ) (e : ℕ) : Type 0 where
  pub there : memb (get_or set e 0) set ≡ true
  pub item : get_or set e 0 < length ranks
  pub rank : get_or ranks (get_or set e 0) 0 < length ranks
  pub few : length ranks ≤ max_items

pub rank_at : {ranks set : List ℕ} → Ranked ranks set → (e : ℕ) → e < length set → RankAt ranks set e
rank_at {ranks} {set} ranked e below =
    let there = memb_at set e 0 below in
    record {
      there = there;
      item = good_item (length ranks) set ranked.good (get_or set e 0) there;
      rank = rank_low (length ranks) ranks ranked.permutation set ranked.good (get_or set e 0) there;
      few = ranked.few;
    }

-- keys below a bound: one of them alone makes a higher bound have more
pub count_more : (key : ℕ → ℕ) (set : List ℕ) (x b : ℕ) → memb x set ≡ true → key x < b
    → count (λ y. ltb (key y) (key x)) set < count (λ y. ltb (key y) b) set
count_more key set x b there less = at (memb_place x set there)
  where
    at : Place x set → count (λ y. ltb (key y) (key x)) set < count (λ y. ltb (key y) b) set
    at place =
        count_less (λ y. ltb (key y) (key x)) (λ y. ltb (key y) b) 0 set place.at place.below
        (λ y e. lt-ltb (key y) b (omega (arith, ltb-true (key y) (key x) e)))
        (rw place.here (le-ltb (key x) (key x) (omega arith)))
        (rw place.here (lt-ltb (key x) b less))
