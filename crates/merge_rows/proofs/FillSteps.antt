-- The rows being filled, right set by right set: a block opened, one right set added, and what the rows say of the first sets.
use Prim.Native.Nat.{ℕ, zero, suc, ◌+◌, ◌*◌, ◌/◌, ◌%◌, ◌<◌, ◌≤◌}
use mathlib.Core.Path.{◌≡◌, refl, sym, ap, ap₂, subst, ◌∙◌}
use mathlib.Core.List.{List, [], ◌∷◌, ◌++◌}
use mathlib.Core.Bool.{Bool, true, false, ◌&&◌, ◌||◌, and-false, or-false, false≢true}
use native.Mathlib.Nat.{mul-le-mul, mul-le-mul_left}
use native.Mathlib.Numerals.{add-one}
use native.Mathlib.Omega.{arith}
use borrow.Author.Tests.{eqb-true, eqb-false, eq-eqb, ne_eqb, ltb-true, ltb-false}
use lib.Arith.{digits_div, digits_mod}
use lib.Dec.{eqb, ltb, eqb-zero-suc, eqb-suc-zero, eqb-suc-suc}
use lib.ListN.{length, take, get_or, length-append, get_or-eq_default}
use lib.Seq.{take-suc, take_all, length-take-le}
use Rattle.std.specs.Prelude.{None}
use Rattle.lists.specs.Lists.{all, any, memb}
use Rattle.lists.proofs.Bools.{by_test, same_test, true-false, and_left, and_right, and_both, or_left, or_right, or_cases}
use Rattle.lists.proofs.Throughout.{any_append, any_intro, any_elim}
use Rattle.sets.specs.Limits.{max_items}
use Rattle.sets.specs.Collections.{between, sets_of, first_bad}
use Rattle.sets.proofs.Between.{length-sets}
use Rattle.counting_sort.specs.Sorting.{WordsCleared}
use Rattle.side_index.specs.inverted.Placing.{start_at}
use Rattle.side_index.proofs.inverted.Collected.{SetAt, set_at}
use Rattle.bit_sets.specs.BitSets.{bit_at}
use Rattle.signatures.proofs.SigningSets.{double_stays}
use Rattle.merge_rows.specs.Words.{digit, DigitSet}
use Rattle.merge_rows.specs.Filled.{blocks_of, row_words, cell_at, RowsHold, BlockRoom, BlockOpened, marks, Added}
use Rattle.merge_rows.proofs.WordDigits.{digit_cleared}

-- the rows are small
pub row_small : (t b : ℕ) → t ≤ max_items → b ≤ 65 → t * b ≤ 266240
row_small t b few low = mul-le-mul few low

-- a block opened, or already begun
pub block_opened : {t s : ℕ} {w w' : List ℕ} → s % 64 ≡ 0 → WordsCleared (2 * (t * (s / 64 + 1))) (2 * t) w w' → BlockOpened t s w w'
block_opened {t} {s} {w} {w'} first cleared =
    record {
      size = cleared.changed.size;
      below = λ c low. double_stays (2 * (t * (s / 64 + 1))) (2 * c) w w' cleared.changed.low (omega arith);
      fresh = λ e x j low. digit_cleared cleared (t * (s / 64 + 1) + x) j (omega arith) (omega arith);
      begun = λ other. absurd (other first);
    }

pub block_begun : {t s : ℕ} {w : List ℕ} → (s % 64 ≡ 0 → ⊥) → BlockOpened t s w w
block_begun other =
    record { size = refl; below = λ c low. refl; fresh = λ first x j low. absurd (other first); begun = λ e. refl }

-- one item more of a right set
pub added_start : {t s : ℕ} {w : List ℕ} → Added t s [] w w
unfolding any
added_start = record { size = refl; holds = λ c j. refl }

pub added_step : {t s : ℕ} (e : ℕ) (set : List ℕ) {was w v u : List ℕ} → e < length set → Added t s (take e set) was w
    → DigitSet (t * (s / 64 + 1) + get_or set e 0) (s % 64) w v → DigitSet (get_or set e 0) (s / 64) v u
    → Added t s (take (e + 1) set) was u
unfolding any
added_step {t} {s} e set {was} {w} {v} {u} below added cell sum =
    record {
      size = sum.size ∙ cell.size ∙ added.size;
      holds = λ c j.
          let x = get_or set e 0 in
          let named = eqb c x && eqb j (s / 64) in
          let held = eqb c (t * (s / 64 + 1) + x) && eqb j (s % 64) in
          sum.holds c j ∙ ap (λ (b : Bool). named || b) (cell.holds c j ∙ ap (λ (b : Bool). held || b) (added.holds c j))
          ∙ turn named held (any (marks t s c j) (take e set)) (digit was c j)
          ∙ ap (λ (b : Bool). b || digit was c j)
          (sym (any_append (marks t s c j) (take e set) (x ∷ []))
          ∙ ap (any (marks t s c j)) (sym (take-suc set e 0 below) ∙ ap (λ (n : ℕ). take n set) (sym (add-one e))));
    }
  where
    turn : (a b p q : Bool) → (a || (b || (p || q))) ≡ ((p || ((a || b) || false)) || q)
    turn true b true q = refl
    turn true b false q = refl
    turn false true true q = refl
    turn false true false q = refl
    turn false false true q = refl
    turn false false false q = refl

-- the words of two items in two blocks are the same only where item and block are
module _ {t x y : ℕ} (low : x < t) (small : y < t) (a b : ℕ) (same : t * (a + 1) + x ≡ t * (b + 1) + y) where
  turned : (a + 1) * t + x ≡ (b + 1) * t + y
  turned = omega (arith, same)

  block_same : a ≡ b
  block_same =
      let blocks : a + 1 ≡ b + 1 = sym (digits_div (a + 1) low) ∙ ap (λ (n : ℕ). n / t) turned ∙ digits_div (b + 1) small in
      omega arith

  item_same : x ≡ y
  item_same = sym (digits_mod (a + 1) low) ∙ ap (λ (n : ℕ). n % t) turned ∙ digits_mod (b + 1) small

-- the digits of right set s in a block: those of its own items
mark_cell : (t s r x y : ℕ) → x < t → y < t → marks t s (t * (r / 64 + 1) + x) (r % 64) y ≡ (eqb r s && eqb x y)
mark_cell t s r x y low small =
    let c = t * (r / 64 + 1) + x in
    let above : y < c = omega arith in
    ap (λ (b : Bool). (b && eqb (r % 64) (s / 64)) || (eqb c (t * (s / 64 + 1) + y) && eqb (r % 64) (s % 64)))
    (ne_eqb c y (λ e. omega arith))
    ∙ same_test (eqb c (t * (s / 64 + 1) + y) && eqb (r % 64) (s % 64)) (eqb r s && eqb x y)
    (λ both.
    let at = eqb-true c (t * (s / 64 + 1) + y) (and_left (eqb c (t * (s / 64 + 1) + y)) (eqb (r % 64) (s % 64)) both) in
    let place = eqb-true (r % 64) (s % 64) (and_right (eqb c (t * (s / 64 + 1) + y)) (eqb (r % 64) (s % 64)) both) in
    let block = block_same low small (r / 64) (s / 64) at in
    and_both (eq-eqb r s (omega arith)) (eq-eqb x y (item_same low small (r / 64) (s / 64) at)))
    (λ both.
    let same = eqb-true r s (and_left (eqb r s) (eqb x y) both) in
    let item = eqb-true x y (and_right (eqb r s) (eqb x y) both) in
    and_both (eq-eqb c (t * (s / 64 + 1) + y) (ap₂ (λ (i z : ℕ). t * (i / 64 + 1) + z) same item))
    (eq-eqb (r % 64) (s % 64) (ap (λ (i : ℕ). i % 64) same)))

marks_cell : (t s r x : ℕ) (set : List ℕ) → x < t → all (λ y. ltb y t) set ≡ true
    → any (marks t s (t * (r / 64 + 1) + x) (r % 64)) set ≡ (eqb r s && memb x set)
unfolding any all memb
marks_cell t s r x [] low small = sym (and-false (eqb r s))
marks_cell t s r x (y ∷ ys) low small =
    ap₂ (λ (a b : Bool). a || b) (mark_cell t s r x y low (ltb-true y t (and_left (ltb y t) (all (λ y. ltb y t) ys) small)))
    (marks_cell t s r x ys low (and_right (ltb y t) (all (λ y. ltb y t) ys) small))
    ∙ taken (eqb r s) (eqb x y) (memb x ys)
  where
    taken : (a b c : Bool) → ((a && b) || (a && c)) ≡ (a && (b || c))
    taken true b c = refl
    taken false b c = refl

-- the members of right set r, where one set more stands behind the first ones
memb_snoc : (first : List (List ℕ)) (set : List ℕ) (r x : ℕ)
    → memb x (get_or (first ++ (set ∷ [])) r []) ≡ ((eqb r (length first) && memb x set) || memb x (get_or first r []))
unfolding memb
memb_snoc [] set zero x = sym (or-false (memb x set))
memb_snoc [] set (suc r) x = rw (eqb-suc-zero r)
memb_snoc (f ∷ fs) set zero x = rw (eqb-zero-suc (length fs))
memb_snoc (f ∷ fs) set (suc r) x = rw (eqb-suc-suc r (length fs)) (memb_snoc fs set r x)

-- the rows of the first right sets, and one more
module _ {t : ℕ} {first : List (List ℕ)} {w v : List ℕ} (rows : RowsHold t first w) (opened : BlockOpened t (length first) w v) where
  abbrev s : ℕ
  s = length first

  sum_kept : (x j : ℕ) → x < t → digit v x j ≡ digit w x j
  sum_kept x j low = ap (λ (d : ℕ). bit_at d j) (opened.below x (omega arith))

  cells_opened : (r x : ℕ) → r < 64 * (s / 64 + 1) → x < t → cell_at t v x r ≡ memb x (get_or first r [])
  unfolding memb
  cells_opened r x here low =
      by_test (ltb (r / 64) (s / 64)) (λ earlier. before (ltb-true (r / 64) (s / 64) earlier))
      (λ not-Earlier.
      let block : r / 64 ≡ s / 64 = omega (arith, ltb-false (r / 64) (s / 64) not-Earlier) in
      by_test (eqb (s % 64) 0) (λ new. fresh block (eqb-true (s % 64) 0 new)) (λ old. begun block (eqb-false (s % 64) 0 old)))
    where
      before : r / 64 < s / 64 → cell_at t v x r ≡ memb x (get_or first r [])
      before earlier =
          ap (λ (d : ℕ). bit_at d (r % 64)) (opened.below (t * (r / 64 + 1) + x) (omega (arith, mul-le-mul_left t earlier)))
          ∙ rows.cells r x (omega arith) low

      fresh : r / 64 ≡ s / 64 → s % 64 ≡ 0 → cell_at t v x r ≡ memb x (get_or first r [])
      fresh block new =
          ap (λ (q : ℕ). digit v (t * (q + 1) + x) (r % 64)) block ∙ opened.fresh new x (r % 64) low
          ∙ sym (ap (memb x) (get_or-eq_default first [] {n = r} (omega arith)))

      begun : r / 64 ≡ s / 64 → (s % 64 ≡ 0 → ⊥) → cell_at t v x r ≡ memb x (get_or first r [])
      begun block old = ap (λ (l : List ℕ). cell_at t l x r) (opened.begun old) ∙ rows.cells r x (omega (arith, old)) low

  pub rows_add : {set u : List ℕ} → Added t s set v u → all (λ x. ltb x t) set ≡ true → 2 * row_words t (s + 1) ≤ length u
      → RowsHold t (first ++ (set ∷ [])) u
  rows_add {set} {u} added small room =
      record {
        room = rw long room;
        cells = λ r x here low.
            added.holds (t * (r / 64 + 1) + x) (r % 64)
            ∙ ap₂ (λ (a b : Bool). a || b) (marks_cell t s r x set low small) (cells_opened r x (omega (arith, long)) low)
            ∙ sym (memb_snoc first set r x);
        sums = λ r x low there.
            added.holds x (r / 64)
            ∙ or_cases (eqb r s && memb x set) (memb x (get_or first r [])) (sym (memb_snoc first set r x) ∙ there)
            (λ new.
            or_left (any (marks t s x (r / 64)) set) (digit v x (r / 64))
            (any_intro (marks t s x (r / 64)) set x (and_right (eqb r s) (memb x set) new)
            (own x r (eqb-true r s (and_left (eqb r s) (memb x set) new)))))
            (λ old. or_right (any (marks t s x (r / 64)) set) (digit v x (r / 64)) (sum_kept x (r / 64) low ∙ rows.sums r x low old));
        within = λ x j low is.
            or_cases (any (marks t s x j) set) (digit v x j) (sym (added.holds x j) ∙ is)
            (λ new. any_elim (marks t s x j) set new (λ y there named. last x y j low named))
            (λ old. let there = rows.within x j low (sym (sum_kept x j low) ∙ old) in omega (arith, long));
      }
    where
      long : length (first ++ (set ∷ [])) ≡ s + 1
      long = length-append first (set ∷ [])

      own : (x r : ℕ) → r ≡ s → marks t s x (r / 64) x ≡ true
      own x r e =
          or_left (eqb x x && eqb (r / 64) (s / 64)) (eqb x (t * (s / 64 + 1) + x) && eqb (r / 64) (s % 64))
          (and_both (eq-eqb x x refl) (eq-eqb (r / 64) (s / 64) (ap (λ (i : ℕ). i / 64) e)))

      last : (x y j : ℕ) → x < t → marks t s x j y ≡ true → j < blocks_of (length (first ++ (set ∷ [])))
      last x y j low named =
          or_cases (eqb x y && eqb j (s / 64)) (eqb x (t * (s / 64 + 1) + y) && eqb j (s % 64)) named
          (λ sum. let at = eqb-true j (s / 64) (and_right (eqb x y) (eqb j (s / 64)) sum) in omega (arith, long))
          (λ cell.
          let at = eqb-true x (t * (s / 64 + 1) + y) (and_left (eqb x (t * (s / 64 + 1) + y)) (eqb j (s % 64)) cell) in
          absurd (omega arith))

-- no right set yet
pub rows_none : {t : ℕ} {w w' : List ℕ} → WordsCleared 0 (2 * t) w w' → 2 * t ≤ length w' → RowsHold t [] w'
unfolding memb
rows_none {t} cleared room =
    record {
      room = omega arith;
      cells = λ s x here low. absurd (omega arith);
      sums = λ s x low there. absurd (false≢true there);
      within = λ x j low is. true-false is (digit_cleared cleared x j (omega arith) (omega arith));
    }

-- the rows are those of the first s right sets, and the next one begins at start
pub record RowsFilling (t : ℕ) (ends items was is : List ℕ) (start s : ℕ) : Type 0 where
  pub rows : RowsHold t (take s (sets_of ends items)) is
  pub size : length is ≡ length was
  pub place : s ≤ length ends
  pub begins : start ≡ start_at ends s

module _ {t : ℕ} {ends items was is : List ℕ} {start s : ℕ} (filling : RowsFilling t ends items was is start s) (few : t ≤ max_items)
    (good : first_bad t ends items ≡ None) (room : 2 * row_words t (length ends) ≤ length was) (below : s < length ends) where
  abbrev rights : List (List ℕ)
  rights = sets_of ends items

  first_long : length (take s rights) ≡ s
  first_long = length-take-le s rights (omega (arith, length-sets 0 ends items))

  pub set_next : SetAt t s start (get_or ends s 0) (get_or rights s []) items
  set_next = rw filling.begins (set_at t ends items good s below)

  pub block_room : BlockRoom t s is
  block_room =
      record {
        few = few;
        place = set_next.good.place;
        room =
            let more : s / 64 + 2 ≤ blocks_of (length ends) + 1 = omega arith in
            omega (arith, mul-le-mul_left t more, filling.size);
      }

  pub filling_step : {v u : List ℕ} → BlockOpened t s is v → Added t s (between start (get_or ends s 0) items) v u
      → RowsFilling t ends items was u (get_or ends s 0) (s + 1)
  filling_step {v} {u} opened added =
      let there = set_next in
      let size : length u ≡ length was = added.size ∙ opened.size ∙ filling.size in
      let more : blocks_of (s + 1) + 1 ≤ blocks_of (length ends) + 1 = omega arith in
      let first = take s rights in
      let grown : take (s + 1) rights ≡ first ++ (between start (get_or ends s 0) items ∷ []) =
      ap (λ (n : ℕ). take n rights) (add-one s) ∙ take-suc rights s [] (omega (arith, length-sets 0 ends items))
      ∙ ap (λ (set : List ℕ). first ++ (set ∷ [])) there.is
      in
      record {
        rows =
            rw grown
            (rows_add filling.rows (subst (λ (n : ℕ). BlockOpened t n is v) (sym first_long) opened)
            (subst (λ (n : ℕ). Added t n (between start (get_or ends s 0) items) v u) (sym first_long) added)
            there.good.below
            (subst (λ (n : ℕ). 2 * row_words t (n + 1) ≤ length u) (sym first_long) (omega (arith, mul-le-mul_left t more))));
        size = size;
        place = omega arith;
        begins = ap (start_at ends) (sym (add-one s));
      }

pub filling_end : {t : ℕ} {ends items was is : List ℕ} {start s : ℕ} → RowsFilling t ends items was is start s → length ends ≤ s
    → RowsHold t (sets_of ends items) is
filling_end {t} {ends} {items} {was} {is} {start} {s} filling past =
    rw (take_all s (sets_of ends items) (omega (arith, length-sets 0 ends items))) at filling.rows
