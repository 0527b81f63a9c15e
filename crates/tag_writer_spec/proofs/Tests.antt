-- Laws of the writer's tests: the case of each, what lists have that passed them, and that their refusals change nothing.
use mathlib.Core.Path.{◌≡◌, refl, sym, ap, ◌∙◌}
use mathlib.Core.List.{List}
use mathlib.Core.Bool.{Bool, true, false, not}
use Prim.Native.Nat.{ℕ, ◌*◌, ◌/◌, ◌≤◌, ◌<◌, min}
use native.Mathlib.Omega.{arith}
use borrow.Author.Tests.{eq-eqb, ne_eqb, eqb-true, le-ltb, ltb-false, not-false}
use lib.Dec.{eqb, ltb}
use lib.ListN.{length}
use Rattle.std.specs.Prelude.{Option, None, Some, Result, Err, Ok, ⊤}
use Rattle.sets.specs.Limits.{max_items}
use Rattle.sets.specs.Collections.{first_bad}
use Rattle.sets.specs.Refusals.{clears, refuse_if, no_bad_set, unless}
use Rattle.sets.specs.declared.Side.{Side}
use Rattle.sets.specs.declared.Side.TheVariants.{Left, Right}
use Rattle.sets.specs.declared.Refusal.{Refusal}
use Rattle.sets.specs.declared.Refusal.TheVariants.{ShortOutput, BadSet, BadSettings}
use Rattle.inputs.specs.Tests.{items_test, side_test}
use Rattle.sets.proofs.Testing.{both_passed, refuse_passed, failed_same}
use Rattle.tag_file.specs.Format.{tag_length}
use Rattle.tag_file.specs.Loading.{Lists}
use Rattle.tag_writer_spec.specs.Inner.{GoodSide, GoodLists}
use Rattle.tag_writer_spec.specs.Writer.{table_test, numbers_test, numbered_test, lists_test, room_test}

-- ---- the cases

module _ (T : ℕ) (tags : List ℕ) where
  pub table_items : {why : Refusal} → items_test T ≡ Err why → Err why ≡ table_test T tags
  unfolding table_test
  table_items failed = rw failed

  module _ (few : items_test T ≡ Ok tt) where
    pub table_other : (length tags ≡ tag_length * T → ⊥) → Err BadSettings ≡ table_test T tags
    unfolding table_test
    table_other other = rw (few, ne_eqb (length tags) (tag_length * T) other)

    pub table_whole : length tags ≡ tag_length * T → Ok tt ≡ table_test T tags
    unfolding table_test
    table_whole whole = rw (few, eq-eqb (length tags) (tag_length * T) whole)

module _ (T : ℕ) (side : Side) (numbers ends items : List ℕ) where
  -- the test of its sets alone
  abbrev pub judged : Result ⊤ Refusal
  judged = side_test T side (record { ends = ends; items = items })

  pub side_bad : {why : Refusal} → judged ≡ Err why → Err why ≡ numbered_test T side numbers ends items
  unfolding numbered_test
  side_bad bad = rw bad

  module _ (good : judged ≡ Ok tt) where
    pub side_even : length numbers ≡ length ends → Ok tt ≡ numbered_test T side numbers ends items
    unfolding numbered_test
    side_even even = rw (good, eq-eqb (length numbers) (length ends) even)

    pub side_fewer : length numbers < length ends → Err (BadSet side (length numbers)) ≡ numbered_test T side numbers ends items
    unfolding numbered_test
    side_fewer fewer =
        let least : min (length numbers) (length ends) ≡ length numbers = omega arith in
        rw (good, ne_eqb (length numbers) (length ends) (λ e. omega arith), least)

    pub side_more : (length numbers ≡ length ends → ⊥) → length ends ≤ length numbers
        → Err (BadSet side (length ends)) ≡ numbered_test T side numbers ends items
    unfolding numbered_test
    side_more other more =
        let least : min (length numbers) (length ends) ≡ length ends = omega arith in
        rw (good, ne_eqb (length numbers) (length ends) other, least)

module _ (T : ℕ) (l : Lists) where
  -- the tests of the two sides
  abbrev left : Result ⊤ Refusal
  left = numbered_test T Left l.left_numbers l.left_ends l.left_items

  abbrev right : Result ⊤ Refusal
  right = numbered_test T Right l.right_numbers l.right_ends l.right_items

  pub lists_table : (why : Refusal) → table_test T l.tags ≡ Err why → Err why ≡ lists_test T l
  unfolding lists_test
  lists_table why failed = rw failed

  module _ (table : table_test T l.tags ≡ Ok tt) where
    pub lists_left : (why : Refusal) → left ≡ Err why → Err why ≡ lists_test T l
    unfolding lists_test
    lists_left why failed = rw (table, failed)

    pub lists_right : {r : Result ⊤ Refusal} → left ≡ Ok tt → r ≡ right → r ≡ lists_test T l
    unfolding lists_test
    lists_right passed e = rw (table, passed) e

  pub lists_good : T ≤ max_items → length l.tags ≡ tag_length * T → left ≡ Ok tt → right ≡ Ok tt → lists_test T l ≡ Ok tt
  lists_good few whole good_left good_right =
      let table = table_whole T l.tags (ap (λ (b : Bool). refuse_if b BadSettings) (le-ltb max_items T few)) whole in
      sym (lists_right (sym table) good_left (sym good_right))

-- ---- what lists have that passed

no_bad : (side : Side) (v : Option ℕ) → no_bad_set side v ≡ Ok tt → v ≡ None
no_bad side None e = refl
no_bad side (Some place) e = let z : ◌≡◌ {A = ℕ} 0 1 = cc in absurd (omega arith)

pub room_passed : (room bytes : ℕ) → room_test room bytes ≡ Ok tt → bytes ≤ room
room_passed room bytes e = ltb-false room bytes (refuse_passed (ltb room bytes) ShortOutput e)

table_passed : (T : ℕ) (tags : List ℕ) → table_test T tags ≡ Ok tt → length tags ≡ tag_length * T
unfolding table_test
table_passed T tags e =
    let both = both_passed (items_test T) _ e in
    eqb-true _ _ (not-false (eqb (length tags) (tag_length * T)) (refuse_passed _ BadSettings both.1))

side_passed : (T : ℕ) (side : Side) (tags numbers ends items : List ℕ) → length tags ≡ tag_length * T
    → numbered_test T side numbers ends items ≡ Ok tt → GoodSide tags numbers ends items
unfolding numbered_test
side_passed T side tags numbers ends items whole e =
    let both = both_passed (judged T side numbers ends items) (numbers_test side numbers ends) e in
    let count : length tags / tag_length ≡ T = omega arith in
    record {
      good = rw count (no_bad side (first_bad T ends items) both.0);
      numbered = eqb-true _ _ (not-false (eqb (length numbers) (length ends)) (refuse_passed _ _ both.1));
    }

pub lists_passed : (T : ℕ) (l : Lists) → lists_test T l ≡ Ok tt → GoodLists l
unfolding lists_test
lists_passed T l e =
    let first = both_passed (table_test T l.tags) (unless Err (left T l) (right T l)) e in
    let later = both_passed (left T l) (right T l) first.1 in
    let whole = table_passed T l.tags first.0 in
    record {
      left = side_passed T Left l.tags l.left_numbers l.left_ends l.left_items whole later.0;
      right = side_passed T Right l.tags l.right_numbers l.right_ends l.right_items whole later.1;
    }

-- ---- their refusals change nothing

-- a test whose refusal, if any, leaves the output as before
abbrev pub Keeping : Result ⊤ Refusal → Type 0
Keeping t = (why : Refusal) → t ≡ Err why → clears why ≡ false

keeping_of : (wrong : Bool) (why : Refusal) → clears why ≡ false → Keeping (refuse_if wrong why)
keeping_of true why keeps other e = ap clears (sym (failed_same why other e)) ∙ keeps
keeping_of false why keeps other e = let z : ◌≡◌ {A = ℕ} 0 1 = cc in absurd (omega arith)

keeping-sets : (side : Side) (v : Option ℕ) → Keeping (no_bad_set side v)
keeping-sets side None other e = let z : ◌≡◌ {A = ℕ} 0 1 = cc in absurd (omega arith)
keeping-sets side (Some place) other e = keeping_of true (BadSet side place) refl other e

keeping_then : (a b : Result ⊤ Refusal) → Keeping a → Keeping b → Keeping (unless Err a b)
keeping_then (Ok _) b ka kb = kb
keeping_then (Err why) b ka kb = ka

pub lists_keeping : (T : ℕ) (l : Lists) → Keeping (lists_test T l)
unfolding lists_test table_test numbered_test
lists_keeping T l =
    keeping_then (table_test T l.tags) _
    (keeping_then (items_test T) _
    (keeping_of (ltb max_items T) BadSettings refl)
    (keeping_of (not (eqb (length l.tags) (tag_length * T))) BadSettings refl))
    (keeping_then (left T l) (right T l)
    (keeping_side Left l.left_numbers l.left_ends l.left_items)
    (keeping_side Right l.right_numbers l.right_ends l.right_items))
  where
    keeping_side : (side : Side) (numbers ends items : List ℕ) → Keeping (numbered_test T side numbers ends items)
    keeping_side side numbers ends items =
        keeping_then (no_bad_set side (first_bad T ends items)) (numbers_test side numbers ends)
        (keeping-sets side (first_bad T ends items))
        (keeping_of (not (eqb (length numbers) (length ends))) _ refl)
