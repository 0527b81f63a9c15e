-- The pair list: its length is twice the number of contained pairs, each contained pair of places is in it exactly once and no
-- other pair is, and it rises by left place and then right place. All collections; no setting occurs. The laws are over elements
-- of any kind and any test of two of them.
use Prim.Native.Nat.{ℕ, zero, suc, ◌+◌, ◌*◌, ◌<◌, ◌≤◌}
use mathlib.Core.Path.{◌≡◌, refl, ◌∙◌}
use mathlib.Core.List.{List, [], ◌∷◌, ◌++◌}
use mathlib.Core.Bool.{Bool, true, false, ◌&&◌, ◌||◌, and-false}
use native.Mathlib.Omega.{arith}
use lib.Dec.{eqb, ltb, leb-suc-suc}
use lib.ListN.{length, get_or, length-append}
use borrow.Author.Tests.{eq-eqb, ne_eqb, eqb-true, ltb-true, lt-ltb, le-ltb}
use Rattle.lists.specs.Lists.{one, sum, count}
use Rattle.lists.proofs.Bools.{and_left, and_right, and_both, or_left, or_right, or_cases}
use Rattle.sets.specs.Collections.{contained}
use Rattle.join_spec.specs.PairList.{onto_pair, row_from, pairs_from, count_pairs, pair_list, pair_count}

-- how often the pair (l, r) is in a list of pairs, read two by two
unfoldable pub pair_occurs : ℕ → ℕ → List ℕ → ℕ
pair_occurs l r [] = 0
pair_occurs l r (x ∷ []) = 0
pair_occurs l r (x ∷ y ∷ rest) = one (eqb x l && eqb y r) + pair_occurs l r rest

-- whether one pair of places comes before another: by left place, then by right place
abbrev pub pair_before : ℕ → ℕ → ℕ → ℕ → Bool
pair_before l r x y = ltb l x || (eqb l x && ltb r y)

-- whether a list, read two by two, is one of rising pairs, the first after (l, r); a half pair is refused
unfoldable pub pairs_rising_after : ℕ → ℕ → List ℕ → Bool
pairs_rising_after l r [] = true
pairs_rising_after l r (x ∷ []) = false
pairs_rising_after l r (x ∷ y ∷ rest) = pair_before l r x y && pairs_rising_after x y rest

unfoldable pub pairs_rising : List ℕ → Bool
pairs_rising [] = true
pairs_rising (x ∷ []) = false
pairs_rising (x ∷ y ∷ rest) = pairs_rising_after x y rest

-- what comes before: a later right place, the left place, the next right place
before_later : (l r x y : ℕ) → pair_before l r x y ≡ true → pair_before l r x (suc y) ≡ true
before_later l r x y h =
    or_cases (ltb l x) (eqb l x && ltb r y) h
    (λ low. or_left (ltb l x) (eqb l x && ltb r (suc y)) low)
    (λ both.
    or_right (ltb l x) (eqb l x && ltb r (suc y))
    (and_both (and_left (eqb l x) (ltb r y) both)
    (lt-ltb r (suc y) (omega (arith, ltb-true r y (and_right (eqb l x) (ltb r y) both))))))

before_left : (l r x y : ℕ) → pair_before l r x y ≡ true → l ≤ x
before_left l r x y h =
    or_cases (ltb l x) (eqb l x && ltb r y) h
    (λ low. omega (arith, ltb-true l x low))
    (λ both. omega (arith, eqb-true l x (and_left (eqb l x) (ltb r y) both)))

before_next : (x y : ℕ) → pair_before x y x (suc y) ≡ true
before_next x y = or_right (ltb x x) (eqb x x && ltb y (suc y)) (and_both (eq-eqb x x refl) (lt-ltb y (suc y) (omega arith)))

-- a row: the right elements that pass a test; `past` stands for an element past the list's end
module _ {B : Type 0} (test : B → Bool) (past : B) where
  -- its length
  row-length : (l r : ℕ) (rights : List B)
      → length (row_from test l r rights) ≡ 2 * count test rights
  unfolding row_from count
  row-length l r [] = refl
  row-length l r (right ∷ rights) = made (test right) (row-length l (suc r) rights)
    where
      made : (b : Bool) → length (row_from test l (suc r) rights) ≡ 2 * count test rights
          → length (onto_pair b l r (row_from test l (suc r) rights)) ≡ 2 * (one b + count test rights)
      made true e = omega arith
      made false e = omega arith

  -- occurrences: a row has no pair with an earlier right place, and none with another left place
  row_before : (l r x y : ℕ) (rights : List B) (rest : List ℕ) → r < y
      → pair_occurs l r (row_from test x y rights ++ rest) ≡ pair_occurs l r rest
  unfolding row_from pair_occurs
  row_before l r x y [] rest h = refl
  row_before l r x y (right ∷ rights) rest h =
      made (test right) (row_before l r x (suc y) rights rest (omega arith))
    where
      made : (b : Bool) → pair_occurs l r (row_from test x (suc y) rights ++ rest) ≡ pair_occurs l r rest
          → pair_occurs l r (onto_pair b x y (row_from test x (suc y) rights) ++ rest) ≡ pair_occurs l r rest
      made true e =
          rw (ne_eqb y r (λ q. omega arith), and-false (eqb x l)) (omega arith)
      made false e = e

  -- the pair (l, y + k) occurs in a row of left place x that begins at right place y where x is l and the set at k is contained
  row_occurs : (l r x y k : ℕ) (rights : List B) (rest : List ℕ) → r ≡ y + k
      → pair_occurs l r (row_from test x y rights ++ rest)
      ≡ one (eqb x l && (ltb k (length rights) && test (get_or rights k past))) + pair_occurs l r rest
  unfolding row_from pair_occurs
  row_occurs l r x y k [] rest e = rw (le-ltb k 0 (omega arith), and-false (eqb x l)) (omega arith)
  row_occurs l r x y zero (right ∷ rights) rest e =
      made (test right) (row_before l r x (suc y) rights rest (omega arith))
    where
      made : (b : Bool) → pair_occurs l r (row_from test x (suc y) rights ++ rest) ≡ pair_occurs l r rest
          → pair_occurs l r (onto_pair b x y (row_from test x (suc y) rights) ++ rest)
          ≡ one (eqb x l && (ltb 0 (suc (length rights)) && b)) + pair_occurs l r rest
      made true later = rw (eq-eqb y r (omega arith), lt-ltb 0 (suc (length rights)) (omega arith), later)
      made false later = rw (lt-ltb 0 (suc (length rights)) (omega arith), and-false (eqb x l)) (omega arith)
  row_occurs l r x y (suc k) (right ∷ rights) rest e =
      rw (leb-suc-suc (suc k) (length rights))
      (made (test right) (row_occurs l r x (suc y) k rights rest (omega arith)))
    where
      made : (b : Bool)
          → pair_occurs l r (row_from test x (suc y) rights ++ rest)
          ≡ one (eqb x l && (ltb k (length rights) && test (get_or rights k past))) + pair_occurs l r rest
          → pair_occurs l r (onto_pair b x y (row_from test x (suc y) rights) ++ rest)
          ≡ one (eqb x l && (ltb k (length rights) && test (get_or rights k past))) + pair_occurs l r rest
      made true later = rw (ne_eqb y r (λ q. omega arith), and-false (eqb x l)) (omega arith)
      made false later = later

  -- a row and what follows it, if that rises after every pair of a left place up to the row's
  row-rising : (l r x y : ℕ) (rights : List B) (rest : List ℕ) → pair_before l r x y ≡ true
      → ((i j : ℕ) → i ≤ x → pairs_rising_after i j rest ≡ true)
      → pairs_rising_after l r (row_from test x y rights ++ rest) ≡ true
  unfolding row_from pairs_rising_after
  row-rising l r x y [] rest before later = later l r (before_left l r x y before)
  row-rising l r x y (right ∷ rights) rest before later =
      made (test right) (row-rising x y x (suc y) rights rest (before_next x y) later)
      (row-rising l r x (suc y) rights rest (before_later l r x y before) later)
    where
      made : (b : Bool) → pairs_rising_after x y (row_from test x (suc y) rights ++ rest) ≡ true
          → pairs_rising_after l r (row_from test x (suc y) rights ++ rest) ≡ true
          → pairs_rising_after l r (onto_pair b x y (row_from test x (suc y) rights) ++ rest) ≡ true
      made true with without = and_both before with
      made false with without = without

  row-rising_first : (x y : ℕ) (rights : List B) (rest : List ℕ) → pairs_rising rest ≡ true
      → ((i j : ℕ) → i ≤ x → pairs_rising_after i j rest ≡ true)
      → pairs_rising (row_from test x y rights ++ rest) ≡ true
  unfolding row_from pairs_rising
  row-rising_first x y [] rest whole later = whole
  row-rising_first x y (right ∷ rights) rest whole later =
      made (test right) (row-rising x y x (suc y) rights rest (before_next x y) later)
      (row-rising_first x (suc y) rights rest whole later)
    where
      made : (b : Bool) → pairs_rising_after x y (row_from test x (suc y) rights ++ rest) ≡ true
          → pairs_rising (row_from test x (suc y) rights ++ rest) ≡ true
          → pairs_rising (onto_pair b x y (row_from test x (suc y) rights) ++ rest) ≡ true
      made true with without = with
      made false with without = without

-- all rows
module _ {A B : Type 0} (test : A → B → Bool) (pastLeft : A) (pastRight : B) where
  pairs_length : (l : ℕ) (lefts : List A) (rights : List B) → length (pairs_from test l lefts rights) ≡ 2 * count_pairs test lefts rights
  unfolding pairs_from sum
  pairs_length l [] rights = refl
  pairs_length l (left ∷ lefts) rights =
      length-append (row_from (test left) l 0 rights) (pairs_from test (suc l) lefts rights)
      ∙ omega (arith, row-length (test left) pastRight l 0 rights, pairs_length (suc l) lefts rights)

  -- no pair of an earlier left place occurs
  pairs_before : (l r x : ℕ) (lefts : List A) (rights : List B) → l < x → pair_occurs l r (pairs_from test x lefts rights) ≡ 0
  unfolding pairs_from pair_occurs
  pairs_before l r x [] rights h = refl
  pairs_before l r x (left ∷ lefts) rights h =
      row_occurs (test left) pastRight l r x 0 r rights (pairs_from test (suc x) lefts rights) (omega arith)
      ∙ rw (ne_eqb x l (λ q. omega arith)) (omega (arith, pairs_before l r (suc x) lefts rights (omega arith)))

  pairs_occur : (l r x k : ℕ) (lefts : List A) (rights : List B) → l ≡ x + k
      → pair_occurs l r (pairs_from test x lefts rights)
      ≡ one (ltb k (length lefts) && (ltb r (length rights) && test (get_or lefts k pastLeft) (get_or rights r pastRight)))
  unfolding pairs_from pair_occurs
  pairs_occur l r x k [] rights e = rw (le-ltb k 0 (omega arith))
  pairs_occur l r x zero (left ∷ lefts) rights e =
      row_occurs (test left) pastRight l r x 0 r rights (pairs_from test (suc x) lefts rights) (omega arith)
      ∙ rw (
        eq-eqb x l (omega arith),
        lt-ltb 0 (suc (length lefts)) (omega arith),
        pairs_before l r (suc x) lefts rights (omega arith),
      )
      (omega arith)
  pairs_occur l r x (suc k) (left ∷ lefts) rights e =
      row_occurs (test left) pastRight l r x 0 r rights (pairs_from test (suc x) lefts rights) (omega arith)
      ∙ rw (ne_eqb x l (λ q. omega arith), leb-suc-suc (suc k) (length lefts))
      (omega (arith, pairs_occur l r (suc x) k lefts rights (omega arith)))

  pairs_rising_lem : (l r x : ℕ) (lefts : List A) (rights : List B) → l < x → pairs_rising_after l r (pairs_from test x lefts rights) ≡ true
  unfolding pairs_from pairs_rising_after
  pairs_rising_lem l r x [] rights h = refl
  pairs_rising_lem l r x (left ∷ lefts) rights h =
      row-rising (test left) pastRight l r x 0 rights (pairs_from test (suc x) lefts rights)
      (or_left (ltb l x) (eqb l x && ltb r 0) (lt-ltb l x h))
      (λ i j low. pairs_rising_lem i j (suc x) lefts rights (omega arith))

  pairs_rising_first : (x : ℕ) (lefts : List A) (rights : List B) → pairs_rising (pairs_from test x lefts rights) ≡ true
  unfolding pairs_from pairs_rising
  pairs_rising_first x [] rights = refl
  pairs_rising_first x (left ∷ lefts) rights =
      row-rising_first (test left) pastRight x 0 rights (pairs_from test (suc x) lefts rights) (pairs_rising_first (suc x) lefts rights)
      (λ i j low. pairs_rising_lem i j (suc x) lefts rights (omega arith))

-- the length of the pair list
pub length-pair_list : (lefts rights : List (List ℕ)) → length (pair_list lefts rights) ≡ 2 * pair_count lefts rights
length-pair_list lefts rights = pairs_length contained [] [] 0 lefts rights

-- a pair of places is in the list once where both are places and the left set is contained in the right one, else not at all
pub pair_occurs_lem : (l r : ℕ) (lefts rights : List (List ℕ))
    → pair_occurs l r (pair_list lefts rights)
    ≡ one (ltb l (length lefts) && (ltb r (length rights) && contained (get_or lefts l []) (get_or rights r [])))
pair_occurs_lem l r lefts rights = pairs_occur contained [] [] l r 0 l lefts rights (omega arith)

-- the list rises by left place, then by right place
pub pair_list-rising : (lefts rights : List (List ℕ)) → pairs_rising (pair_list lefts rights) ≡ true
pair_list-rising lefts rights = pairs_rising_first contained [] [] 0 lefts rights
