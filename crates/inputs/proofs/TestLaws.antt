-- The tests one after the other: what each shows of an input, and what an input has that passed them.
use Prim.Native.Nat.{ℕ, ◌≤◌, ◌<◌}
use mathlib.Core.Path.{◌≡◌, refl, sym, ap}
use mathlib.Core.List.{List}
use mathlib.Core.Bool.{Bool, true, false, not}
use native.Mathlib.Omega.{arith}
use borrow.Author.Tests.{ltb-false, lt-ltb, le-ltb}
use lib.Dec.{ltb}
use Rattle.std.specs.Prelude.{Option, None, Some, Result, Err, Ok, ⊤}
use Rattle.sets.specs.Limits.{max_items}
use Rattle.sets.specs.Collections.{Collection, good_items, first_bad}
use Rattle.sets.specs.Refusals.{refuse_if, no_bad_set, unless, clears}
use Rattle.sets.proofs.Testing.{both_passed, refuse_passed, failed_same}
use Rattle.sets.proofs.Good.{good_places, good_entries}
use Rattle.sets.specs.declared.Side.{Side}
use Rattle.sets.specs.declared.Side.TheVariants.{Left, Right}
use Rattle.sets.specs.declared.Refusal.{Refusal}
use Rattle.sets.specs.declared.Refusal.TheVariants.{BadSet, ShortWork}
use Rattle.inputs.specs.Input.{Input}
use Rattle.inputs.specs.Inner.{Sized}
use Rattle.inputs.specs.Tests.{side_test, sets_test, lone_test, work_test, words_for, words_needed}

-- a test by what it finds
module _ (T : ℕ) (side : Side) (c : Collection) where
  pub side_passed : first_bad T c.ends c.items ≡ None → Ok tt ≡ side_test T side c
  side_passed e = sym (ap (no_bad_set side) e)

  pub side_failed : {place : ℕ} → first_bad T c.ends c.items ≡ Some place → Err (BadSet side place) ≡ side_test T side c
  side_failed e = sym (ap (no_bad_set side) e)

pub sets_failed : (i : Input) {why : Refusal} → side_test i.T Left i.left ≡ Err why → Err why ≡ sets_test i
unfolding sets_test
sets_failed i e = sym (ap (λ (t : Result ⊤ Refusal). unless Err t (side_test i.T Right i.right)) e)

pub sets_next : (i : Input) → side_test i.T Left i.left ≡ Ok tt → side_test i.T Right i.right ≡ sets_test i
unfolding sets_test
sets_next i e = sym (ap (λ (t : Result ⊤ Refusal). unless Err t (side_test i.T Right i.right)) e)

-- neither side has a bad set
pub record BothGood (i : Input) : Type 0 where
  pub left : first_bad i.T i.left.ends i.left.items ≡ None
  pub right : first_bad i.T i.right.ends i.right.items ≡ None

-- a side without a bad set
pub side_good : (side : Side) (v : Option ℕ) → no_bad_set side v ≡ Ok tt → v ≡ None
side_good side None e = refl
side_good side (Some place) e = let z : ◌≡◌ {A = ℕ} 0 1 = cc in absurd (omega arith)

pub sets_good : (i : Input) → sets_test i ≡ Ok tt → BothGood i
unfolding sets_test
sets_good i e =
    let both = both_passed (side_test i.T Left i.left) (side_test i.T Right i.right) e in
    record {
      left = side_good Left (first_bad i.T i.left.ends i.left.items) both.0;
      right = side_good Right (first_bad i.T i.right.ends i.right.items) both.1;
    }

pub good_sets : (i : Input) → BothGood i → sets_test i ≡ Ok tt
unfolding sets_test
good_sets i good = rw (good.left, good.right)

-- the sizes of good collections are small
pub sized : (i : Input) → i.T ≤ max_items → BothGood i → Sized i
sized i few good =
    record {
      items = few;
      lefts = good_places i.T i.left.ends i.left.items good.left;
      rights = good_places i.T i.right.ends i.right.items good.right;
      left_entries = (good_entries i.T i.left.ends i.left.items good.left).few;
      right_entries = (good_entries i.T i.right.ends i.right.items good.right).few;
    }

-- the tests of the sets and of the work list refuse with 5 and 7 alone, which leave every list as it was
pub sets-keep : (i : Input) (why : Refusal) → sets_test i ≡ Err why → clears why ≡ false
unfolding sets_test
sets-keep i why =
    go (first_bad i.T i.left.ends i.left.items) (first_bad i.T i.right.ends i.right.items)
  where
    go : (l r : Option ℕ) → unless Err (no_bad_set Left l) (no_bad_set Right r) ≡ Err why → clears why ≡ false
    go None None e = let z : ◌≡◌ {A = ℕ} 0 1 = cc in absurd (omega arith)
    go None (Some place) e = ap clears (sym (failed_same (BadSet Right place) why e))
    go (Some place) r e = ap clears (sym (failed_same (BadSet Left place) why e))

pub work_keep : (i : Input) (words : ℕ) (why : Refusal) → work_test i words ≡ Err why → clears why ≡ false
unfolding work_test
work_keep i words why = go (ltb words (words_needed i))
  where
    go : (short : Bool) → refuse_if short ShortWork ≡ Err why → clears why ≡ false
    go true e = ap clears (sym (failed_same ShortWork why e))
    go false e = let z : ◌≡◌ {A = ℕ} 0 1 = cc in absurd (omega arith)

-- a lone set
pub lone_passed : (T place : ℕ) (set : List ℕ) → true ≡ good_items T set → Ok tt ≡ lone_test T place set
unfolding lone_test
lone_passed T place set e = ap (λ (b : Bool). refuse_if (not b) (BadSet Right place)) e

pub lone_failed : (T place : ℕ) (set : List ℕ) → false ≡ good_items T set → Err (BadSet Right place) ≡ lone_test T place set
unfolding lone_test
lone_failed T place set e = ap (λ (b : Bool). refuse_if (not b) (BadSet Right place)) e

-- the work list
pub words_for_lem : (i : Input) → words_needed i ≡ words_for i.T i.left.ends i.right.ends
unfolding words_needed
words_for_lem i = refl

pub work_short : (i : Input) (words : ℕ) → words < words_needed i → Err ShortWork ≡ work_test i words
unfolding work_test
work_short i words short = sym (ap (λ (b : Bool). refuse_if b ShortWork) (lt-ltb words (words_needed i) short))

pub work_enough : (i : Input) (words : ℕ) → work_test i words ≡ Ok tt → words_needed i ≤ words
unfolding work_test
work_enough i words e = ltb-false words (words_needed i) (refuse_passed (ltb words (words_needed i)) _ e)

pub enough_work : (i : Input) (words : ℕ) → words_needed i ≤ words → work_test i words ≡ Ok tt
unfolding work_test
enough_work i words enough = ap (λ (b : Bool). refuse_if b ShortWork) (le-ltb words (words_needed i) enough)
