-- What it means that a collection has no bad set: `first_bad T ends items ≡ Good`. The walk from place k on, with its start,
-- step and end; a record `GoodSet` of what holds at each place; and what holds of all sets.
use mathlib.Core.Path.{◌≡◌, refl, sym, ◌∙◌}
use mathlib.Core.List.{List, [], ◌∷◌}
use mathlib.Core.Bool.{Bool, true, false, not, cond, ◌&&◌, ◌||◌}
use Prim.Native.Nat.{ℕ, zero, suc, ◌+◌, ◌-◌, ◌<◌, ◌≤◌}
use native.Mathlib.Numerals.{add-one}
use native.Mathlib.Omega.{arith}
use borrow.Author.Tests.{ltb-true, leb-true, leb-false, le-leb, lt-leb, not-false}
use lib.Dec.{leb, ltb, lit≤}
use lib.ListN.{length, get_or, drop, drop_of_length-le}
use lib.Seq.{drop-cons, get_or-take, get_or-drop}
use Rattle.std.specs.Prelude.{None, Some}
use Rattle.lists.specs.Lists.{all, rising}
use Rattle.lists.proofs.Bools.{by_test, and_left, and_right, and_both, or_left_false, or_right_false}
use Rattle.lists.proofs.Throughout.{all_at}
use Rattle.sets.specs.Limits.{max_sets, max_entries, max_set_length}
use Rattle.sets.specs.Collections.{between, sets_from, sets_of, good_items, good_end, bad_set}
use Rattle.sets.specs.Collections.{first_bad_from, first_bad, last_end, entries}
use Rattle.sets.proofs.Between.{length-between}

-- the walk from place k on: its end, a bad set, and the next place
module _ (T : ℕ) (ends items : List ℕ) (k start : ℕ) where
  pub first_bad_end : length ends ≤ k → first_bad_from T k start (drop k ends) items ≡ None
  unfolding first_bad_from
  first_bad_end past = rw (drop_of_length-le ends {i = k} past)

  pub first_bad-stop : k < length ends → bad_set T k start (get_or ends k 0) items ≡ true
      → first_bad_from T k start (drop k ends) items ≡ Some k
  unfolding first_bad_from
  first_bad-stop below bad = rw (drop-cons ends k 0 below, bad)

  pub first_bad_next : k < length ends → bad_set T k start (get_or ends k 0) items ≡ false
      → first_bad_from T k start (drop k ends) items ≡ first_bad_from T (k + 1) (get_or ends k 0) (drop (k + 1) ends) items
  unfolding first_bad_from
  first_bad_next below good = rw (drop-cons ends k 0 below, good, add-one k)

-- a set is bad by its place alone, or by its end and items
module _ (T k start end : ℕ) (items : List ℕ) where
  pub bad_place : max_sets ≤ k → bad_set T k start end items ≡ true
  unfolding bad_set
  bad_place past = rw (le-leb max_sets k past)

  pub bad_content : k < max_sets
      → (good_end start end items && good_items T (between start end items)) ≡ false
      → bad_set T k start end items ≡ true
  unfolding bad_set
  bad_content low bad = rw (lt-leb max_sets k low, bad)

  pub not_bad : k < max_sets
      → (good_end start end items && good_items T (between start end items)) ≡ true
      → bad_set T k start end items ≡ false
  unfolding bad_set
  not_bad low good = rw (lt-leb max_sets k low, good)

-- what holds of the set at place k that begins at start and ends at end
pub record GoodSet (T k start end : ℕ) (items : List ℕ) : Type 0 where
  pub place : k < max_sets
  pub ordered : start ≤ end
  pub entries : end ≤ max_entries
  pub within : end ≤ length items
  pub short : end - start ≤ max_set_length
  pub below : all (λ i. ltb i T) (between start end items) ≡ true
  pub rises : rising (between start end items) ≡ true
  pub good : good_items T (between start end items) ≡ true

or_not : (a b : Bool) → (a || not b) ≡ false → b ≡ true
or_not a b e = not-false b (or_right_false a (not b) e)

pub good_set : (T k start end : ℕ) (items : List ℕ) → bad_set T k start end items ≡ false → GoodSet T k start end items
unfolding bad_set
good_set T k start end items e =
    let set = between start end items in
    let low = or_left_false (leb max_sets k) (not (good_end start end items && good_items T set)) e in
    let both = or_not (leb max_sets k) (good_end start end items && good_items T set) e in
    let at_end = and_left (good_end start end items) (good_items T set) both in
    let at-items = and_right (good_end start end items) (good_items T set) both in
    let limits = and_right (leb start end) (leb end max_entries && leb end (length items)) at_end in
    let ranks = and_right (leb (length set) max_set_length) (all (λ i. ltb i T) set && rising set) at-items in
    let inside : end ≤ length items =
    leb-true end (length items) (and_right (leb end max_entries) (leb end (length items)) limits)
    in
    let fits = and_left (leb (length set) max_set_length) (all (λ i. ltb i T) set && rising set) at-items in
    let len = leb-true (length set) max_set_length fits in
    record {
      place = leb-false max_sets k low;
      ordered = leb-true start end (and_left (leb start end) (leb end max_entries && leb end (length items)) at_end);
      entries = leb-true end max_entries (and_left (leb end max_entries) (leb end (length items)) limits);
      within = inside;
      short = omega (arith, length-between start end items inside);
      below = and_left (all (λ i. ltb i T) set) (rising set) ranks;
      rises = and_right (all (λ i. ltb i T) set) (rising set) ranks;
      good = at-items;
    }

-- the items of a good set are below T
pub set_item : (T start end : ℕ) (items : List ℕ) (k : ℕ) → GoodSet T k start end items → (e : ℕ) → start ≤ e → e < end
    → get_or items e 0 < T
set_item T start end items k good e low high =
    let long = length-between start end items good.within in
    let there : start + (e - start) ≡ e = omega arith in
    let at : get_or (between start end items) (e - start) 0 ≡ get_or items e 0 =
    get_or-take (end - start) (drop start items) (e - start) 0 (omega arith) ∙ get_or-drop start items (e - start) 0 ∙ rw there
    in
    let test = all_at (λ (i : ℕ). ltb i T) 0 (between start end items) good.below (e - start) (omega arith) in
    ltb-true (get_or items e 0) T (rw at at test)

-- the walk that ends Good over the ends that are left: what holds of the first set, and that the rest is Good
unfolds_cons : (T k start end : ℕ) (ends items : List ℕ) (b : Bool) → bad_set T k start end items ≡ b
    → first_bad_from T k start (end ∷ ends) items ≡ cond b (Some k) (first_bad_from T (suc k) end ends items)
unfolding first_bad_from
unfolds_cons T k start end ends items b e = rw e

good_first : (T k start end : ℕ) (ends items : List ℕ) → first_bad_from T k start (end ∷ ends) items ≡ None
    → bad_set T k start end items ≡ false
good_first T k start end ends items e =
    by_test (bad_set T k start end items)
    (λ bad.
    let clash : Some k ≡ None = sym (unfolds_cons T k start end ends items true bad) ∙ e in
    let z : ◌≡◌ {A = ℕ} 0 1 = cc in
    absurd (omega arith))
    (λ good. good)

pub good_cons : (T k start end : ℕ) (ends items : List ℕ) → first_bad_from T k start (end ∷ ends) items ≡ None
    → GoodSet T k start end items
good_cons T k start end ends items e = good_set T k start end items (good_first T k start end ends items e)

pub good_rest : (T k start end : ℕ) (ends items : List ℕ) → first_bad_from T k start (end ∷ ends) items ≡ None
    → first_bad_from T (suc k) end ends items ≡ None
good_rest T k start end ends items e =
    sym (unfolds_cons T k start end ends items false (good_first T k start end ends items e)) ∙ e

-- the same in a loop over the places: what holds at k, and that it goes on so from k + 1
module _ (T : ℕ) (ends items : List ℕ) (k start : ℕ) (below : k < length ends)
    (e : first_bad_from T k start (drop k ends) items ≡ None) where
  good_drop : first_bad_from T k start (get_or ends k 0 ∷ drop (suc k) ends) items ≡ None
  good_drop = rw (drop-cons ends k 0 below) at e

  pub good_step : GoodSet T k start (get_or ends k 0) items
  good_step = good_cons T k start (get_or ends k 0) (drop (suc k) ends) items good_drop

  pub good_next : first_bad_from T (k + 1) (get_or ends k 0) (drop (k + 1) ends) items ≡ None
  good_next = rw (add-one k) (good_rest T k start (get_or ends k 0) (drop (suc k) ends) items good_drop)

-- no set ends past the items
end_within_from : (T j start : ℕ) (ends items : List ℕ) → first_bad_from T j start ends items ≡ None → (k : ℕ) → k < length ends
    → get_or ends k 0 ≤ length items
end_within_from T j start [] items e k below = absurd (omega arith)
end_within_from T j start (end ∷ ends) items e zero below = (good_cons T j start end ends items e).within
end_within_from T j start (end ∷ ends) items e (suc k) below =
    end_within_from T (suc j) end ends items (good_rest T j start end ends items e) k (omega arith)

pub end_within_lem : (T : ℕ) (ends items : List ℕ) → first_bad T ends items ≡ None → (k : ℕ) → k < length ends
    → get_or ends k 0 ≤ length items
end_within_lem T ends items e = end_within_from T 0 0 ends items e

-- at most 4,096 sets
good_places_from : (T j start : ℕ) (ends items : List ℕ) → first_bad_from T j start ends items ≡ None → j ≤ max_sets
    → j + length ends ≤ max_sets
good_places_from T j start [] items e low = omega arith
good_places_from T j start (end ∷ ends) items e low =
    let here : j < max_sets = (good_cons T j start end ends items e).place in
    let rest = good_places_from T (suc j) end ends items (good_rest T j start end ends items e) (omega arith) in
    omega arith

pub good_places : (T : ℕ) (ends items : List ℕ) → first_bad T ends items ≡ None → length ends ≤ max_sets
good_places T ends items e = omega (arith, good_places_from T 0 0 ends items e (lit≤ tt))

-- the last end: no end is above it, and it is within the limits
pub last_above : (T j start : ℕ) (ends items : List ℕ) → first_bad_from T j start ends items ≡ None → start ≤ last_end start ends
unfolding last_end
last_above T j start [] items e = omega arith
last_above T j start (end ∷ ends) items e =
    let here = (good_cons T j start end ends items e).ordered in
    let rest = last_above T (suc j) end ends items (good_rest T j start end ends items e) in
    omega arith

pub record GoodEntries (last : ℕ) (items : List ℕ) : Type 0 where
  pub few : last ≤ max_entries
  pub within : last ≤ length items

good_last : (T j start : ℕ) (ends items : List ℕ) → first_bad_from T j start ends items ≡ None → GoodEntries start items
    → GoodEntries (last_end start ends) items
unfolding last_end
good_last T j start [] items e start-good = start-good
good_last T j start (end ∷ ends) items e start-good =
    let here = good_cons T j start end ends items e in
    good_last T (suc j) end ends items (good_rest T j start end ends items e)
    (record { few = here.entries; within = here.within })

pub good_entries : (T : ℕ) (ends items : List ℕ) → first_bad T ends items ≡ None → GoodEntries (entries ends) items
good_entries T ends items e = good_last T 0 0 ends items e (record { few = omega arith; within = omega arith })

-- every set passes its test
pub all_good_from : (T j start : ℕ) (ends items : List ℕ) → first_bad_from T j start ends items ≡ None
    → all (good_items T) (sets_from start ends items) ≡ true
unfolding all sets_from
all_good_from T j start [] items e = refl
all_good_from T j start (end ∷ ends) items e =
    and_both (good_cons T j start end ends items e).good
    (all_good_from T (suc j) end ends items (good_rest T j start end ends items e))

pub all_good : (T : ℕ) (ends items : List ℕ) → first_bad T ends items ≡ None → all (good_items T) (sets_of ends items) ≡ true
all_good T ends items e = all_good_from T 0 0 ends items e
