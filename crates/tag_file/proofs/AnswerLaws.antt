-- The loader's answer: what an accepted load says of the file and of the lists, when a load is accepted and when it is refused;
-- what room for all lists says of each; and the lists after a call as one.
use mathlib.Core.Path.{◌≡◌, refl, sym, ap}
use Prim.Native.Nat.{ℕ, ◌≤◌}
use mathlib.Core.List.{List}
use mathlib.Core.Bool.{Bool, true, false, not, ◌&&◌}
use native.Mathlib.Omega.{arith}
use borrow.Author.Tests.{leb-true}
use lib.ListN.{length}
use Rattle.std.specs.Prelude.{Result, Err, Ok, ⊤}
use Rattle.lists.proofs.Bools.{and_left, and_right}
use Rattle.sets.specs.Refusals.{refuse_if, unless}
use Rattle.sets.specs.declared.Refusal.{Refusal}
use Rattle.sets.specs.declared.Refusal.TheVariants.{ShortOutput}
use Rattle.tag_file.specs.Records.{records}
use Rattle.tag_file.specs.Repeats.{repeat_totals}
use Rattle.tag_file.specs.Loading.{Lists, file_fault, filled, fits, room_for, totals_of, load_answer, lists_after, LoadCall}
use Rattle.tag_file.specs.declared.Loaded.{Loaded}
use Rattle.tag_file.specs.declared.Repeats.{Repeats}

-- what a load answers that fills so much, with so many repeats
abbrev pub load_of : Loaded → Repeats → Result (Loaded × Repeats) Refusal
load_of given found = Ok (given, found)

abbrev filled_in : Result (Loaded × Repeats) Refusal → Loaded → Loaded
filled_in (Ok load) none = load.0
filled_in (Err why) none = none

abbrev repeats_in : Result (Loaded × Repeats) Refusal → Repeats → Repeats
repeats_in (Ok load) none = load.1
repeats_in (Err why) none = none

-- two loads that are the same have the same totals and the same repeats
pub same_load : {given totals : Loaded} {found repeats : Repeats}
    → ◌≡◌ {A = Result (Loaded × Repeats) Refusal} (Ok (given, found)) (Ok (totals, repeats)) → (given ≡ totals) × (found ≡ repeats)
same_load {given} {totals} {found} {repeats} e = (ap (λ r. filled_in r given) e, ap (λ r. repeats_in r found) e)

-- an answer after one test: a refusal is the test's, and what is accepted has passed it
pub tested_refused : (t : Result ⊤ Refusal) (given : Loaded) (found : Repeats) (why : Refusal)
    → unless {A = Result (Loaded × Repeats) Refusal} Err t (Ok (given, found)) ≡ Err why → t ≡ Err why
tested_refused (Ok _) given found why e = let z : ◌≡◌ {A = ℕ} 0 1 = cc in absurd (omega arith)
tested_refused (Err w) given found why e = ap Err cc

pub tested_loaded : (t : Result ⊤ Refusal) (given : Loaded) (found : Repeats) (totals : Loaded) (repeats : Repeats)
    → unless {A = Result (Loaded × Repeats) Refusal} Err t (Ok (given, found)) ≡ Ok (totals, repeats)
    → (t ≡ Ok tt) × (totals ≡ given) × (repeats ≡ found)
tested_loaded (Ok _) given found totals repeats e = let same = same_load e in (refl, sym same.0, sym same.1)
tested_loaded (Err w) given found totals repeats e = let z : ◌≡◌ {A = ℕ} 0 1 = cc in absurd (omega arith)

-- no fault, room in every list, the totals, and the repeats of the file's records
pub record LoadAccepted (file : List ℕ) (lent : Lists) (totals : Loaded) (repeats : Repeats) : Type 0 where
  pub clear : file_fault file ≡ Ok tt
  pub room : room_for (filled (records file)) lent ≡ true
  pub counted : totals_of (records file) ≡ totals
  pub repeated : repeat_totals (records file) ≡ repeats

accepted_if : (fault : Result ⊤ Refusal) (room : Bool) (given totals : Loaded) (found repeats : Repeats)
    → unless {A = Result (Loaded × Repeats) Refusal} Err fault (unless Err (refuse_if (not room) ShortOutput) (Ok (given, found)))
    ≡ Ok (totals, repeats)
    → (fault ≡ Ok tt) × (room ≡ true) × (given ≡ totals) × (found ≡ repeats)
accepted_if (Err why) room given totals found repeats e = let z : ◌≡◌ {A = ℕ} 0 1 = cc in absurd (omega arith)
accepted_if (Ok _) false given totals found repeats e = let z : ◌≡◌ {A = ℕ} 0 1 = cc in absurd (omega arith)
accepted_if (Ok _) true given totals found repeats e = let same = same_load e in (refl, refl, same.0, same.1)

module _ (file : List ℕ) (lent : Lists) where
  pub accepted : (totals : Loaded) (repeats : Repeats) → load_answer file lent ≡ Ok (totals, repeats)
      → LoadAccepted file lent totals repeats
  unfolding load_answer
  accepted totals repeats e =
      let parts = accepted_if (file_fault file) (room_for (filled (records file)) lent) (totals_of (records file)) totals
      (repeat_totals (records file)) repeats e in
      record { clear = parts.0; room = parts.1; counted = parts.2; repeated = parts.3 }

  module _ (clear : file_fault file ≡ Ok tt) where
    pub accepts : room_for (filled (records file)) lent ≡ true
        → load_answer file lent ≡ Ok ((totals_of (records file)), (repeat_totals (records file)))
    unfolding load_answer
    accepts room = rw (clear, room)

    pub refuses_short : room_for (filled (records file)) lent ≡ false → load_answer file lent ≡ Err ShortOutput
    unfolding load_answer
    refuses_short short = rw (clear, short)

  pub refuses_fault : (why : Refusal) → file_fault file ≡ Err why → load_answer file lent ≡ Err why
  unfolding load_answer
  refuses_fault why fault = rw fault

-- ---- room for all lists is room for each

pub record RoomForEach (part lent : Lists) : Type 0 where
  pub tags : length part.tags ≤ length lent.tags
  pub left_numbers : length part.left_numbers ≤ length lent.left_numbers
  pub left_ends : length part.left_ends ≤ length lent.left_ends
  pub left_items : length part.left_items ≤ length lent.left_items
  pub right_numbers : length part.right_numbers ≤ length lent.right_numbers
  pub right_ends : length part.right_ends ≤ length lent.right_ends
  pub right_items : length part.right_items ≤ length lent.right_items

pub room_each : (part lent : Lists) → room_for part lent ≡ true → RoomForEach part lent
unfolding room_for
room_each part lent t =
    let a = fits part.tags lent.tags in
    let b = fits part.left_numbers lent.left_numbers in
    let c = fits part.left_ends lent.left_ends in
    let d = fits part.left_items lent.left_items in
    let e = fits part.right_numbers lent.right_numbers in
    let f = fits part.right_ends lent.right_ends in
    let g = fits part.right_items lent.right_items in
    let t1 = and_right a (b && (c && (d && (e && (f && g))))) t in
    let t2 = and_right b (c && (d && (e && (f && g)))) t1 in
    let t3 = and_right c (d && (e && (f && g))) t2 in
    let t4 = and_right d (e && (f && g)) t3 in
    let t5 = and_right e (f && g) t4 in
    record {
      tags = leb-true (length part.tags) (length lent.tags) (and_left a (b && (c && (d && (e && (f && g))))) t);
      left_numbers = leb-true (length part.left_numbers) (length lent.left_numbers)
          (and_left b (c && (d && (e && (f && g)))) t1);
      left_ends = leb-true (length part.left_ends) (length lent.left_ends) (and_left c (d && (e && (f && g))) t2);
      left_items = leb-true (length part.left_items) (length lent.left_items) (and_left d (e && (f && g)) t3);
      right_numbers = leb-true (length part.right_numbers) (length lent.right_numbers) (and_left e (f && g) t4);
      right_ends = leb-true (length part.right_ends) (length lent.right_ends) (and_left f g t5);
      right_items = leb-true (length part.right_items) (length lent.right_items) (and_right f g t5);
    }

-- the seven lists after a call, as one
pub call_lists : {file : List ℕ} {before after : Lists} {answer : Result (Loaded × Repeats) Refusal} → LoadCall file before after answer
    → after ≡ lists_after file before
call_lists c =
    rw (c.tags, c.left_numbers, c.left_ends, c.left_items, c.right_numbers, c.right_ends, c.right_items)

-- a call, with the answer as it is defined
pub call_defined : {file : List ℕ} {before after : Lists} {answer : Result (Loaded × Repeats) Refusal} → LoadCall file before after answer
    → LoadCall file before after (load_answer file before)
call_defined c =
    record {
      answered = refl;
      tags = c.tags;
      left_numbers = c.left_numbers;
      left_ends = c.left_ends;
      left_items = c.left_items;
      right_numbers = c.right_numbers;
      right_ends = c.right_ends;
      right_items = c.right_items;
    }
