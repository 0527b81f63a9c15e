-- The item entries of a collection without a bad set, as one list: the first `entries ends` items. They are below T, and an item
-- occurs among them once for each set that holds it.
use mathlib.Core.Path.{◌≡◌, refl, sym, ◌∙◌}
use mathlib.Core.List.{List, [], ◌∷◌, ◌++◌}
use mathlib.Core.Bool.{true}
use Prim.Native.Nat.{ℕ, suc, ◌+◌, ◌-◌, ◌<◌, ◌≤◌}
use native.Mathlib.Nat.{sub-zero}
use native.Mathlib.Omega.{arith}
use lib.Dec.{eqb, ltb}
use lib.ListN.{length, get_or, take, drop}
use lib.Seq.{take-add, drop-drop}
use Rattle.std.specs.Prelude.{Some, None, slice_get}
use Rattle.std.proofs.lemmas.Option.{none-some, slice_get_within, slice_get-get_or, get_or_from_slice_get}
use Rattle.lists.specs.Lists.{count, all, memb}
use Rattle.lists.proofs.Throughout.{all_append}
use Rattle.lists.proofs.Counting.{count_append, count-distinct}
use Rattle.lists.proofs.Rising.{rising-distinct}
use Rattle.sets.specs.Collections.{between, sets_from, sets_of, first_bad_from, first_bad, last_end, entries}
use Rattle.sets.proofs.Between.{between_nil}
use Rattle.sets.proofs.Good.{good_cons, good_rest, last_above}

-- the last end is the end at the last place
last_end_at : (start : ℕ) (ends : List ℕ) → 0 < length ends → last_end start ends ≡ get_or ends (length ends - 1) 0
unfolding last_end
last_end_at start [] some = absurd (omega arith)
last_end_at start (end ∷ []) some = refl
last_end_at start (end ∷ next ∷ ends) some =
    let here : suc (length ends) - 1 ≡ length ends = omega arith in
    let there : suc (suc (length ends)) - 1 ≡ suc (length ends) = omega arith in
    last_end_at end (next ∷ ends) (omega arith) ∙ rw (here, there)

pub entries_at : (ends : List ℕ) → 0 < length ends → entries ends ≡ get_or ends (length ends - 1) 0
entries_at ends some = last_end_at 0 ends some

pub entries_none : (ends : List ℕ) → length ends ≤ 0 → entries ends ≡ 0
unfolding last_end
entries_none [] none = refl
entries_none (end ∷ ends) none = absurd (omega arith)

-- the entries by what the slice's last element is found to be
pub entries_some : (ends : List ℕ) (end : ℕ) → Some end ≡ slice_get ends (length ends - 1) → end ≡ entries ends
entries_some ends end e =
    let within = slice_get_within ends (length ends - 1) end (sym e) in
    sym (entries_at ends (omega arith) ∙ get_or_from_slice_get ends (length ends - 1) end 0 (sym e))

pub entries_empty : (ends : List ℕ) → None ≡ slice_get ends (length ends - 1) → 0 ≡ entries ends
unfolding last_end
entries_empty [] e = refl
entries_empty (end ∷ ends) e = absurd (none-some _ (e ∙ slice_get-get_or (end ∷ ends) (length (end ∷ ends) - 1) 0 (omega arith)))

pub between_append : (start mid end : ℕ) (l : List ℕ) → start ≤ mid → mid ≤ end
    → between start end l ≡ between start mid l ++ between mid end l
between_append start mid end l low high =
    let whole : end - start ≡ (mid - start) + (end - mid) = omega arith in
    let there : start + (mid - start) ≡ mid = omega arith in
    rw (whole, take-add (mid - start) (end - mid) (drop start l), drop-drop (mid - start) start l, there)

entries_from_below : (T k start : ℕ) (ends items : List ℕ) → first_bad_from T k start ends items ≡ None
    → all (λ i. ltb i T) (between start (last_end start ends) items) ≡ true
unfolding last_end all
entries_from_below T k start [] items e = rw (between_nil start start items (omega arith))
entries_from_below T k start (end ∷ ends) items e =
    let here = good_cons T k start end ends items e in
    let rest = good_rest T k start end ends items e in
    rw (between_append start end (last_end end ends) items here.ordered (last_above T (suc k) end ends items rest))
    (all_append (λ i. ltb i T) (between start end items) (between end (last_end end ends) items) here.below
    (entries_from_below T (suc k) end ends items rest))

whole : (e : ℕ) (items : List ℕ) → between 0 e items ≡ take e items
whole e items = rw (sub-zero e)

pub entries_below : (T : ℕ) (ends items : List ℕ) → first_bad T ends items ≡ None
    → all (λ i. ltb i T) (take (entries ends) items) ≡ true
entries_below T ends items e = rw (whole (entries ends) items) at (entries_from_below T 0 0 ends items e)

-- how many sets hold an item is how often it occurs among the entries
count-sets_from : (T k start i : ℕ) (ends items : List ℕ) → first_bad_from T k start ends items ≡ None
    → count (memb i) (sets_from start ends items) ≡ count (eqb i) (between start (last_end start ends) items)
unfolding last_end sets_from count
count-sets_from T k start i [] items e = rw (between_nil start start items (omega arith))
count-sets_from T k start i (end ∷ ends) items e =
    let here = good_cons T k start end ends items e in
    let rest = good_rest T k start end ends items e in
    rw (
      between_append start end (last_end end ends) items here.ordered (last_above T (suc k) end ends items rest),
      count_append (eqb i) (between start end items) (between end (last_end end ends) items),
      count-distinct i (between start end items) (rising-distinct (between start end items) here.rises),
      count-sets_from T (suc k) end i ends items rest,
    )

pub count-sets : (T i : ℕ) (ends items : List ℕ) → first_bad T ends items ≡ None
    → count (memb i) (sets_of ends items) ≡ count (eqb i) (take (entries ends) items)
count-sets T i ends items e = rw (whole (entries ends) items) at (count-sets_from T 0 0 i ends items e)
