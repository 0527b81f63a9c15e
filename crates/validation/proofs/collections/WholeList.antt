-- A collection tested as one list. Ends in order, no item T or more, and no fall but those at borders: together they are what it
-- means that no set is bad, since the falls of the list are those inside sets and those at borders.
use mathlib.Core.Path.{◌≡◌, refl, sym, ap, ◌∙◌}
use mathlib.Core.List.{List, [], ◌∷◌}
use mathlib.Core.Bool.{true, ◌&&◌}
use Prim.Native.Nat.{ℕ, suc, ◌+◌, ◌≤◌}
use native.Mathlib.Nat.{sub-zero}
use native.Mathlib.Omega.{arith}
use borrow.Author.Tests.{le-leb, eqb-true, eq-eqb}
use lib.Dec.{eqb, leb}
use lib.ListN.{length}
use Rattle.std.specs.Prelude.{Option, None, Some}
use Rattle.lists.specs.Lists.{count, slice}
use Rattle.lists.proofs.Bools.{and_both, same_test}
use Rattle.lists.proofs.Slices.{slice_from}
use Rattle.validation.specs.falls.Falls.{good_ends, falls, border_falls}
use Rattle.validation.proofs.falls.Falls.{falls_none, falls_end, falls_cut}
use Rattle.validation.proofs.falls.Passes.{high_none, high_cut}
use Rattle.validation.proofs.falls.Ends.{FirstEnd, ends_first, ends_rest, ends_both, ends_none}
use Rattle.sets.specs.Limits.{max_sets, max_entries, max_set_length}
use Rattle.sets.specs.Collections.{between, good_end, good_items, first_bad_from, first_bad, last_end, entries}
use Rattle.validation.specs.collections.WholeList.{is_good}
use Rattle.sets.proofs.Between.{length-between}
use Rattle.sets.proofs.Entries.{entries_below}
use Rattle.sets.proofs.Good.{good_cons, good_rest, last_above, not_bad}

pub is_good_lem : (v : Option ℕ) → is_good v ≡ true → v ≡ None
is_good_lem None e = refl
is_good_lem (Some k) e = let z : ◌≡◌ {A = ℕ} 0 1 = cc in absurd (omega arith)

-- no end is above the last
ends_above : (start : ℕ) (ends : List ℕ) → good_ends max_set_length start ends ≡ true → start ≤ last_end start ends
unfolding last_end
ends_above start [] e = omega arith
ends_above start (end ∷ ends) e =
    omega (arith, (ends_first max_set_length start end ends e).ordered, ends_above end ends (ends_rest max_set_length start end ends e))

-- every fall at a border is a fall of the list
borders_below : (n start : ℕ) (ends items : List ℕ) → good_ends max_set_length start ends ≡ true → last_end start ends ≡ n
    → n ≤ length items
    → border_falls n start ends items ≤ falls (slice start n items)
unfolding border_falls last_end
borders_below n start [] items e last within = omega arith
borders_below n start (end ∷ ends) items e last within =
    let rest = ends_rest max_set_length start end ends e in
    omega (
      arith,
      falls_cut n items within start end (ends_first max_set_length start end ends e).ordered (omega (arith, ends_above end ends rest)),
      borders_below n end ends items rest last within,
    )

-- what the test asks of the sets from start on
record OneList (T n start : ℕ) (ends items : List ℕ) : Type 0 where
  ordered : good_ends max_set_length start ends ≡ true
  last : last_end start ends ≡ n
  low : count (leb T) (slice start n items) ≡ 0
  steady : falls (slice start n items) ≡ border_falls n start ends items

-- what it says of the first set, and that it holds of the rest
record Cut (T n start end : ℕ) (ends items : List ℕ) : Type 0 where
  first : FirstEnd max_set_length start end
  high : end ≤ n
  low : count (leb T) (slice start end items) ≡ 0
  steady : falls (slice start end items) ≡ 0
  rest : OneList T n end ends items

module _ (T n : ℕ) (items : List ℕ) (few : n ≤ max_entries) (within : n ≤ length items) where
  cut : (start end : ℕ) (ends : List ℕ) → OneList T n start (end ∷ ends) items → Cut T n start end ends items
  unfolding last_end border_falls
  cut start end ends w =
      let first = ends_first max_set_length start end ends w.ordered in
      let ordered = ends_rest max_set_length start end ends w.ordered in
      let high : end ≤ n = omega (arith, ends_above end ends ordered, w.last) in
      let parts = high_cut T n items within start end first.ordered high in
      let whole = falls_cut n items within start end first.ordered high in
      let borders = borders_below n end ends items ordered w.last within in
      record {
        first = first;
        high = high;
        low = omega (arith, parts, w.low);
        steady = omega (arith, whole, borders, w.steady);
        rest = record {
          ordered = ordered;
          last = w.last;
          low = omega (arith, parts, w.low);
          steady = omega (arith, whole, borders, w.steady);
        };
      }

  cut_good : (start end : ℕ) (ends : List ℕ) → Cut T n start end ends items
      → (good_end start end items && good_items T (between start end items)) ≡ true
  cut_good start end ends c =
      let set = between start end items in
      let inside : end ≤ length items = omega (arith, c.high) in
      let low : count (leb T) set ≡ 0 = rw (slice_from start end items) at c.low in
      let steady : falls set ≡ 0 = rw (slice_from start end items) at c.steady in
      and_both
      (and_both (le-leb start end c.first.ordered)
      (and_both (le-leb end max_entries (omega (arith, c.high))) (le-leb end (length items) inside)))
      (and_both (le-leb (length set) max_set_length (omega (arith, c.first.short, length-between start end items inside)))
      (and_both (sym (high_none T set) ∙ eq-eqb (count (leb T) set) 0 low)
      (sym (falls_none set) ∙ eq-eqb (falls set) 0 steady)))

  list_good : (k start : ℕ) (ends : List ℕ) → k + length ends ≤ max_sets → OneList T n start ends items
      → first_bad_from T k start ends items ≡ None
  unfolding first_bad_from
  list_good k start [] room w = refl
  list_good k start (end ∷ ends) room w =
      let c = cut start end ends w in
      rw (not_bad T k start end items (omega arith) (cut_good start end ends c))
      (list_good (suc k) end ends (omega arith) c.rest)

-- and where no set is bad, the test holds
good_ends_from : (T k start : ℕ) (ends items : List ℕ) → first_bad_from T k start ends items ≡ None
    → good_ends max_set_length start ends ≡ true
good_ends_from T k start [] items e = ends_none max_set_length start
good_ends_from T k start (end ∷ ends) items e =
    let here = good_cons T k start end ends items e in
    ends_both max_set_length start end ends here.ordered here.short
    (good_ends_from T (suc k) end ends items (good_rest T k start end ends items e))

good_steady_from : (T n k start : ℕ) (ends items : List ℕ) → first_bad_from T k start ends items ≡ None → last_end start ends ≡ n
    → n ≤ length items → falls (slice start n items) ≡ border_falls n start ends items
unfolding last_end border_falls
good_steady_from T n k start [] items e last within = falls_end n items within start (omega arith)
good_steady_from T n k start (end ∷ ends) items e last within =
    let here = good_cons T k start end ends items e in
    let rest = good_rest T k start end ends items e in
    omega (
      arith,
      falls_cut n items within start end here.ordered (omega (arith, last_above T (suc k) end ends items rest)),
      eqb-true (falls (slice start end items)) 0 (falls_none (slice start end items) ∙ rw (slice_from start end items) here.rises),
      good_steady_from T n (suc k) end ends items rest last within,
    )

pub good_ends_lem : (T : ℕ) (ends items : List ℕ) → first_bad T ends items ≡ None → good_ends max_set_length 0 ends ≡ true
good_ends_lem T ends items e = good_ends_from T 0 0 ends items e

module _ (T n : ℕ) (ends items : List ℕ) (last : entries ends ≡ n) where
  pub good_low : first_bad T ends items ≡ None → count (leb T) (slice 0 n items) ≡ 0
  good_low e =
      eqb-true (count (leb T) (slice 0 n items)) 0
      (high_none T (slice 0 n items) ∙ rw (← last, slice_from 0 (entries ends) items, sub-zero (entries ends)) (entries_below T ends items e))

  -- a collection with ends in order, within the limits, and no item T or more is good where its falls are those at borders
  pub whole_good : length ends ≤ max_sets → good_ends max_set_length 0 ends ≡ true → n ≤ max_entries → n ≤ length items
      → count (leb T) (slice 0 n items) ≡ 0
      → eqb (falls (slice 0 n items)) (border_falls n 0 ends items) ≡ is_good (first_bad T ends items)
  whole_good room ordered few within low =
      same_test (eqb (falls (slice 0 n items)) (border_falls n 0 ends items)) (is_good (first_bad T ends items))
      (λ same.
      ap is_good
      (list_good T n items few within 0 0 ends (omega arith)
      (record {
        ordered = ordered;
        last = last;
        low = low;
        steady = eqb-true (falls (slice 0 n items)) (border_falls n 0 ends items) same;
      })))
      (λ good.
      eq-eqb (falls (slice 0 n items)) (border_falls n 0 ends items)
      (good_steady_from T n 0 0 ends items (is_good_lem (first_bad T ends items) good) last within))
