-- `validation::collections::all_good` meets its contract: each early return is a test that a collection without a bad set passes; past them its
-- falls decide.
use mathlib.Core.Path.{◌≡◌, refl, sym, ◌∙◌}
use mathlib.Core.Bool.{Bool, true, false, ◌&&◌}
use native.Mathlib.Omega.{arith}
use borrow.Author.Tests.{not-true, not-false, lt-leb, le-leb}
use lib.Dec.{leb}
use Rattle.std.specs.Prelude.{Option, None, Some}
use Rattle.lists.proofs.Bools.{true-false}
use Rattle.sets.specs.Limits.{max_items}
use Rattle.sets.specs.Collections.{first_bad}
use Rattle.validation.specs.collections.WholeList.{is_good}
use Rattle.sets.proofs.Good.{good_places, good_entries}
use Rattle.validation.proofs.collections.WholeList.{good_ends_lem, good_low, whole_good}
use Rattle.validation.proofs.collections.all_good.Goals as goal
use Prim.Native.Nat.{ℕ}

not_good : (within : Bool) (v : Option ℕ) → (v ≡ None → ⊥) → false ≡ (within && is_good v)
not_good within None never = absurd (never refl)
not_good true (Some k) never = refl
not_good false (Some k) never = refl

pub returns-then-t-gt-MAX_ITEMS : goal.returns-then-t-gt-MAX_ITEMS
returns-then-t-gt-MAX_ITEMS c = rw (lt-leb c.args.t max_items c.if-t-gt-MAX_ITEMS.true)

pub returns-then-len-gt-MAX_SETS : goal.returns-then-len-gt-MAX_SETS
returns-then-len-gt-MAX_SETS c =
    let a = c.args in
    not_good (leb a.t max_items) (first_bad a.t a.sets.now.ends.now a.sets.now.items.now)
    (λ good. omega (arith, good_places a.t a.sets.now.ends.now a.sets.now.items.now good))

pub returns-then-not-good_ends : goal.returns-then-not-good_ends
returns-then-not-good_ends c =
    let a = c.args in
    not_good (leb a.t max_items) (first_bad a.t a.sets.now.ends.now a.sets.now.items.now)
    (λ good.
    true-false (c.good_ends.ensures ∙ good_ends_lem a.t a.sets.now.ends.now a.sets.now.items.now good)
    (not-true c.good_ends.result c.if-not-good_ends.true-raw))

pub returns-then-n-gt-MAX_ENTRIES : goal.returns-then-n-gt-MAX_ENTRIES
returns-then-n-gt-MAX_ENTRIES c =
    let a = c.args in
    not_good (leb a.t max_items) (first_bad a.t a.sets.now.ends.now a.sets.now.items.now)
    (λ good. omega (arith, c.entries-n.ensures, good_entries a.t a.sets.now.ends.now a.sets.now.items.now good))

pub returns-then-sets-n : goal.returns-then-sets-n
returns-then-sets-n c =
    let a = c.args in
    not_good (leb a.t max_items) (first_bad a.t a.sets.now.ends.now a.sets.now.items.now)
    (λ good. omega (arith, c.entries-n.ensures, good_entries a.t a.sets.now.ends.now a.sets.now.items.now good))

pub returns-then-high-ne0 : goal.returns-then-high-ne0
returns-then-high-ne0 c =
    let a = c.args in
    let n = c.entries-n in
    not_good (leb a.t max_items) (first_bad a.t a.sets.now.ends.now a.sets.now.items.now)
    (λ good.
    c.if-high-ne0.true
    (c.count_high-high.ensures ∙ good_low a.t n.result a.sets.now.ends.now a.sets.now.items.now (sym n.ensures) good))

pub returns : goal.returns
returns c =
    let a = c.args in
    let n = c.entries-n in
    let tested = c.good_ends in
    let ordered = sym tested.ensures ∙ not-false tested.result c.if-not-good_ends.false-raw in
    let low = sym c.count_high-high.ensures ∙ c.if-high-ne0.false in
    rw (le-leb a.t max_items (omega arith), c.count_falls-all.ensures, c.count_border_falls-borders.ensures)
    (whole_good a.t n.result a.sets.now.ends.now a.sets.now.items.now (sym n.ensures) (omega arith) ordered (omega arith)
    (omega arith) low)
