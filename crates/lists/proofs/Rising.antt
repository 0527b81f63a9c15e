-- Strictly rising lists: the first number is the least and each is below every later one; what is kept or left of one rises; no
-- number occurs twice; and two with the same members are the same list.
use Prim.Native.Nat.{ℕ, zero, suc, ◌≤◌, ◌<◌}
use mathlib.Core.Path.{◌≡◌, refl, sym, ap, ◌∙◌}
use mathlib.Core.List.{List, [], ◌∷◌}
use mathlib.Core.Bool.{Bool, true, false, not, ◌||◌}
use native.Mathlib.Omega.{arith}
use native.Mathlib.Nat.{not-suc-le-zero, le_of_suc-le-suc}
use lib.Dec.{ltb, eqb}
use lib.ListN.{length, get_or, drop}
use borrow.Author.Tests.{ltb-true, lt-ltb, eqb-true, ne_eqb}
use Rattle.lists.specs.Lists.{onto, keep, memb, range, rising_after, rising, distinct}
use Rattle.lists.proofs.Bools.{and_left, and_right, and_both, true-false, by_test, refuted}
use Rattle.lists.proofs.Membership.{memb_head, memb_cons, memb_nil, memb_at}

-- a list that rises after x rises after anything lower
pub rising_after_lower : (x y : ℕ) (ys : List ℕ) → x ≤ y → rising_after y ys ≡ true → rising_after x ys ≡ true
unfolding rising_after
rising_after_lower x y [] h r = refl
rising_after_lower x y (z ∷ zs) h r =
    and_both (lt-ltb x z (omega (arith, ltb-true y z (and_left (ltb y z) (rising_after z zs) r))))
    (and_right (ltb y z) (rising_after z zs) r)

pub rising_after-rising : (x : ℕ) (ys : List ℕ) → rising_after x ys ≡ true → rising ys ≡ true
unfolding rising_after rising
rising_after-rising x [] r = refl
rising_after-rising x (y ∷ ys) r = and_right (ltb x y) (rising_after y ys) r

pub rising_after-memb : (x : ℕ) (ys : List ℕ) → rising_after x ys ≡ true → (y : ℕ) → memb y ys ≡ true → x < y
unfolding rising_after
rising_after-memb x [] r y m = memb_nil y m
rising_after-memb x (z ∷ zs) r y m =
    let first : x < z = ltb-true x z (and_left (ltb x z) (rising_after z zs) r) in
    memb_cons y z zs m (λ e. omega arith)
    (λ t. omega (arith, rising_after-memb z zs (and_right (ltb x z) (rising_after z zs) r) y t))

-- the first number of a rising list is the least
pub rising_least : (x : ℕ) (xs : List ℕ) → rising (x ∷ xs) ≡ true → (y : ℕ) → memb y (x ∷ xs) ≡ true → x ≤ y
unfolding rising
rising_least x xs r y m = memb_cons y x xs m (λ e. omega arith) (λ t. omega (arith, rising_after-memb x xs r y t))

-- and a number that is not above x is not in a list that rises after x
pub rising_absent : (y x : ℕ) (l : List ℕ) → y ≤ x → rising_after x l ≡ true → memb y l ≡ false
unfolding memb rising_after
rising_absent y x [] low e = refl
rising_absent y x (z ∷ zs) low e =
    let above : x < z = ltb-true x z (and_left (ltb x z) (rising_after z zs) e) in
    rw (ne_eqb y z (λ same. omega arith), rising_absent y z zs (omega arith) (and_right (ltb x z) (rising_after z zs) e))

pub rising_tail : (x : ℕ) (xs : List ℕ) → rising (x ∷ xs) ≡ true → rising xs ≡ true
unfolding rising
rising_tail x xs r = rising_after-rising x xs r

pub rising-drop : (n : ℕ) (l : List ℕ) → rising l ≡ true → rising (drop n l) ≡ true
rising-drop zero l r = r
rising-drop (suc n) [] r = r
rising-drop (suc n) (x ∷ xs) r = rising-drop n xs (rising_tail x xs r)

-- by place
pub rising_after_at : (x : ℕ) (l : List ℕ) → rising_after x l ≡ true → (j : ℕ) → j < length l → x < get_or l j 0
rising_after_at x l r j h = rising_after-memb x l r (get_or l j 0) (memb_at l j 0 h)

pub rising_below : (l : List ℕ) → rising l ≡ true → (i j : ℕ) → i < j → j < length l → get_or l i 0 < get_or l j 0
unfolding rising
rising_below [] r i j h g = absurd (not-suc-le-zero g)
rising_below (x ∷ xs) r i zero h g = absurd (not-suc-le-zero h)
rising_below (x ∷ xs) r zero (suc j) h g = rising_after_at x xs r j (le_of_suc-le-suc g)
rising_below (x ∷ xs) r (suc i) (suc j) h g = rising_below xs (rising_tail x xs r) i j (le_of_suc-le-suc h) (le_of_suc-le-suc g)

-- what is kept of it
pub rising_after-keep : (p : ℕ → Bool) (x : ℕ) (ys : List ℕ) → rising_after x ys ≡ true → rising_after x (keep p ys) ≡ true
unfolding rising_after keep
rising_after-keep p x [] r = refl
rising_after-keep p x (y ∷ ys) r =
    kept (p y) (and_left (ltb x y) (rising_after y ys) r)
    (rising_after-keep p y ys (and_right (ltb x y) (rising_after y ys) r))
  where
    kept : (b : Bool) → ltb x y ≡ true → rising_after y (keep p ys) ≡ true → rising_after x (onto b y (keep p ys)) ≡ true
    kept true below later = and_both below later
    kept false below later = rising_after_lower x y (keep p ys) (omega (arith, ltb-true x y below)) later

pub rising-keep : (p : ℕ → Bool) (xs : List ℕ) → rising xs ≡ true → rising (keep p xs) ≡ true
unfolding rising keep
rising-keep p [] r = refl
rising-keep p (x ∷ xs) r = kept (p x) (rising_after-keep p x xs r)
  where
    kept : (b : Bool) → rising_after x (keep p xs) ≡ true → rising (onto b x (keep p xs)) ≡ true
    kept true later = later
    kept false later = rising_after-rising x (keep p xs) later

pub rising_after-range : (from n : ℕ) → rising_after from (range (suc from) n) ≡ true
unfolding rising_after range
rising_after-range from zero = refl
rising_after-range from (suc n) =
    and_both (lt-ltb from (suc from) (omega arith))
    (rising_after-range (suc from) n)

pub rising-range : (from n : ℕ) → rising (range from n) ≡ true
unfolding rising range
rising-range from zero = refl
rising-range from (suc n) = rising_after-range from n

-- no number of a rising list occurs twice
pub rising-distinct : (xs : List ℕ) → rising xs ≡ true → distinct xs ≡ true
unfolding rising distinct
rising-distinct [] r = refl
rising-distinct (x ∷ xs) r =
    and_both
    (ap not (refuted (memb x xs) (λ m. let below : x < x = rising_after-memb x xs r x m in omega arith)))
    (rising-distinct xs (rising_after-rising x xs r))

-- two with the same members
pub rising_same : (a b : List ℕ) → rising a ≡ true → rising b ≡ true → ((x : ℕ) → memb x a ≡ memb x b) → a ≡ b
unfolding rising memb
rising_same [] [] ra rb h = refl
rising_same [] (y ∷ ys) ra rb h = true-false (memb_head y ys) (sym (h y))
rising_same (x ∷ xs) [] ra rb h = true-false (memb_head x xs) (h x)
rising_same (x ∷ xs) (y ∷ ys) ra rb h =
    let low : y ≤ x = rising_least y ys rb x (sym (h x) ∙ memb_head x xs) in
    let high : x ≤ y = rising_least x xs ra y (h y ∙ memb_head y ys) in
    let e : x ≡ y = omega arith in
    rw (e, rising_same xs ys (rising_after-rising x xs ra) (rising_after-rising y ys rb) (tails e))
  where
    tails : x ≡ y → (z : ℕ) → memb z xs ≡ memb z ys
    tails e z = by_test (eqb z x) here other
      where
        here : eqb z x ≡ true → memb z xs ≡ memb z ys
        here t =
            let zx : z ≡ x = eqb-true z x t in
            rw zx (rising_absent x x xs (omega arith) ra ∙ sym (rw (← e) at (rising_absent y y ys (omega arith) rb)))

        other : eqb z x ≡ false → memb z xs ≡ memb z ys
        other f =
            let g : eqb z y ≡ false = rw e at f in
            sym (ap (λ (b : Bool). b || memb z xs) f) ∙ h z ∙ ap (λ (b : Bool). b || memb z ys) g
