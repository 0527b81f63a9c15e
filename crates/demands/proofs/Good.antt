-- Items past the last end of a collection don't count: where no set is bad, none is with more items behind.
use mathlib.Core.Path.{◌≡◌, refl, ap, ◌∙◌}
use mathlib.Core.List.{List, [], ◌∷◌, ◌++◌}
use mathlib.Core.Bool.{true}
use Prim.Native.Nat.{ℕ, suc, ◌-◌, ◌≤◌}
use native.Mathlib.Omega.{arith}
use borrow.Author.Tests.{le-leb}
use lib.ListN.{length, drop, length-drop, length-append}
use lib.Seq.{take-append-le, drop-append-le}
use Rattle.std.specs.Prelude.{None}
use Rattle.lists.proofs.Bools.{and_both}
use Rattle.sets.specs.Limits.{max_entries}
use Rattle.sets.specs.Collections.{between, good_items, good_end, first_bad_from, first_bad}
use Rattle.sets.proofs.Good.{not_bad, good_cons, good_rest}

-- items past its end make no difference to the items from one end up to the next
pub between_past : (start end : ℕ) (l rest : List ℕ) → start ≤ end → end ≤ length l
    → between start end (l ++ rest) ≡ between start end l
between_past start end l rest rises within =
    rw (drop-append-le start l rest (omega arith))
    (take-append-le (end - start) (drop start l) rest (rw length-drop (omega arith)))

good_past_from : (T j start : ℕ) (ends items rest : List ℕ) → first_bad_from T j start ends items ≡ None
    → first_bad_from T j start ends (items ++ rest) ≡ None
unfolding first_bad_from
good_past_from T j start [] items rest e = refl
good_past_from T j start (end ∷ ends) items rest e =
    let here = good_cons T j start end ends items e in
    let long = length-append items rest in
    let end_good : good_end start end (items ++ rest) ≡ true =
    and_both (le-leb start end here.ordered)
    (and_both (le-leb end max_entries here.entries) (le-leb end (length (items ++ rest)) (omega (arith, here.within)))) in
    let set_good : good_items T (between start end (items ++ rest)) ≡ true =
    ap (good_items T) (between_past start end items rest here.ordered here.within) ∙ here.good in
    rw (not_bad T j start end (items ++ rest) here.place (and_both end_good set_good))
    (good_past_from T (suc j) end ends items rest (good_rest T j start end ends items e))

pub good_past : (T : ℕ) (ends items rest : List ℕ) → first_bad T ends items ≡ None → first_bad T ends (items ++ rest) ≡ None
good_past T ends items rest e = good_past_from T 0 0 ends items rest e
