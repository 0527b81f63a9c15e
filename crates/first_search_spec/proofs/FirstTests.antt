-- The search's tests one after the other, and the answer after them: each refusal, what an input has that passed, and that such
-- an input passes.
use Prim.Native.Nat.{ℕ, ◌≤◌}
use mathlib.Core.Path.{◌≡◌, refl}
use mathlib.Core.List.{List}
use mathlib.Core.Bool.{true, not}
use native.Mathlib.Omega.{arith}
use borrow.Author.Tests.{ltb-false, le-ltb, not-false}
use lib.Dec.{ltb}
use Rattle.std.specs.Prelude.{None, Result, Err, Ok, ⊤}
use Rattle.sets.specs.Limits.{max_items}
use Rattle.sets.specs.Collections.{Collection, sets_in, good_items, first_bad}
use Rattle.sets.specs.Refusals.{unless}
use Rattle.sets.specs.declared.Side.TheVariants.{Left, Right}
use Rattle.sets.specs.declared.Refusal.{Refusal}
use Rattle.sets.specs.declared.Refusal.TheVariants.{BadSet, BadSettings}
use Rattle.inputs.specs.Tests.{items_test, side_test, lone_test}
use Rattle.sets.proofs.Testing.{both_passed, refuse_passed}
use Rattle.inputs.proofs.TestLaws.{side_good}
use Rattle.first_search_spec.specs.declared.Search.{Search}
use Rattle.first_search_spec.specs.First.{first_contained, first_test, first_answer}

-- what an input has that passed
pub record Searchable (T : ℕ) (left : Collection) (right : List ℕ) : Type 0 where
  pub few : T ≤ max_items
  pub lefts_good : first_bad T left.ends left.items ≡ None
  pub right_good : good_items T right ≡ true

-- an answer that is no refusal passed its tests
unrefused : (t : Result ⊤ Refusal) (s f : Search) → Ok f ≡ unless Err t (Ok s) → (t ≡ Ok tt) × (f ≡ s)
unrefused (Ok _) s f e = (refl, cc)
unrefused (Err why) s f e = let z : ◌≡◌ {A = ℕ} 0 1 = cc in absurd (omega arith)

module _ (T : ℕ) (left : Collection) (right : List ℕ) where
  -- each test decides where those before it passed
  pub first_items_failed : {why : Refusal} → items_test T ≡ Err why → Err why ≡ first_test T left right
  unfolding first_test
  first_items_failed e = rw e

  pub first_lefts_failed : {why : Refusal} → items_test T ≡ Ok tt → side_test T Left left ≡ Err why
      → Err why ≡ first_test T left right
  unfolding first_test
  first_lefts_failed few e = rw (few, e)

  pub first_right_next : {r : Result ⊤ Refusal} → items_test T ≡ Ok tt → side_test T Left left ≡ Ok tt → r ≡ lone_test T 0 right
      → r ≡ first_test T left right
  unfolding first_test
  first_right_next few good e = rw (few, good) e

  -- the answer after the tests
  pub first_refused : {why : Refusal} → first_test T left right ≡ Err why → Err why ≡ first_answer T left right
  unfolding first_answer
  first_refused e = rw e

  pub first_searched : first_test T left right ≡ Ok tt → Ok (first_contained (sets_in left) right) ≡ first_answer T left right
  unfolding first_answer
  first_searched e = rw e

  -- they pass exactly where an input is searchable
  pub first_passed : first_test T left right ≡ Ok tt → Searchable T left right
  unfolding first_test lone_test
  first_passed e =
      let six = both_passed (items_test T) (unless Err (side_test T Left left) (lone_test T 0 right)) e in
      let five = both_passed (side_test T Left left) (lone_test T 0 right) six.1 in
      record {
        few = ltb-false max_items T (refuse_passed (ltb max_items T) BadSettings six.0);
        lefts_good = side_good Left (first_bad T left.ends left.items) five.0;
        right_good = not-false (good_items T right) (refuse_passed (not (good_items T right)) (BadSet Right 0) five.1);
      }

  pub passed_first : Searchable T left right → first_test T left right ≡ Ok tt
  unfolding first_test lone_test
  passed_first s = rw (le-ltb max_items T s.few, s.lefts_good, s.right_good)

  -- a search is accepted exactly then, and finds what it should
  pub first_accepted : {f : Search} → Ok f ≡ first_answer T left right
      → Searchable T left right × (f ≡ first_contained (sets_in left) right)
  unfolding first_answer
  first_accepted {f} e =
      let both = unrefused (first_test T left right) (first_contained (sets_in left) right) f e in
      (first_passed both.0, both.1)

  pub searchable_answer : Searchable T left right → Ok (first_contained (sets_in left) right) ≡ first_answer T left right
  searchable_answer s = first_searched (passed_first s)
