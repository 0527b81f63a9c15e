-- Laws of `between`, the items from one end up to the next: its first item and the rest, none where the ends meet, its length.
use mathlib.Core.Path.{◌≡◌, refl, ap}
use mathlib.Core.List.{List, [], ◌∷◌}
use Prim.Native.Nat.{ℕ, suc, ◌+◌, ◌-◌, ◌<◌, ◌≤◌}
use native.Mathlib.Numerals.{add-one}
use native.Mathlib.Omega.{arith}
use lib.ListN.{length, get_or, drop, length-take, length-drop}
use lib.Seq.{drop-cons}
use Rattle.sets.specs.Collections.{between, sets_from}

pub between_cons : (start end : ℕ) (l : List ℕ) → start < end → end ≤ length l
    → between start end l ≡ get_or l start 0 ∷ between (start + 1) end l
between_cons start end l below within =
    let more : end - start ≡ suc (end - (start + 1)) = omega arith in
    let first : drop start l ≡ get_or l start 0 ∷ drop (suc start) l = drop-cons l start 0 (omega arith) in
    rw (more, first, add-one start)

pub between_nil : (start end : ℕ) (l : List ℕ) → end ≤ start → between start end l ≡ []
between_nil start end l past =
    let none : end - start ≡ 0 = omega arith in
    rw none

pub length-between : (start end : ℕ) (l : List ℕ) → end ≤ length l → length (between start end l) ≡ end - start
length-between start end l within = simp (length-take, length-drop) (omega arith)

-- a collection has as many sets as ends
pub length-sets : (start : ℕ) (ends items : List ℕ) → length (sets_from start ends items) ≡ length ends
unfolding sets_from
length-sets start [] items = refl
length-sets start (end ∷ ends) items = ap suc (length-sets end ends items)
