-- A call of the loader by its three ends: a fault of the file, lists that are too short, and what was filled.
use mathlib.Core.Path.{◌≡◌, refl, sym, ap, ap₂, subst, ◌∙◌}
use mathlib.Core.List.{List}
use mathlib.Core.Bool.{Bool, true, false, not}
use Prim.Native.Nat.{ℕ}
use borrow.Author.Tests.{not-true, not-false}
use Rattle.std.specs.Prelude.{Result, Err, Ok}
use Rattle.sets.specs.Refusals.{clears}
use Rattle.sets.specs.declared.Refusal.{Refusal}
use Rattle.sets.specs.declared.Refusal.TheVariants.{ShortOutput}
use Rattle.tag_file.specs.declared.Loaded.{Loaded}
use Rattle.tag_file.specs.declared.Repeats.{Repeats}
use Rattle.tag_file.specs.Records.{records}
use Rattle.tag_file.specs.Repeats.{repeat_totals}
use Rattle.tag_file.specs.Loading.{Lists, file_fault, totals_of, filled, room_for, load_answer, LoadCall}
use Rattle.tag_file.proofs.FaultLaws.{fault_clears}
use Rattle.tag_file.proofs.AnswerLaws.{load_of, tested_refused, tested_loaded, accepts, refuses_short, refuses_fault}
use Rattle.tag_scan.specs.totals.Totals.{Limited}
use Rattle.tag_scan.specs.Scan.{Scanned}
use Rattle.tag_loader.specs.lent_lists.LentLists.{room_in, has_room, AllCleared}
use Rattle.tag_loader.specs.Passes.{AllFilled, Fillable}
use Rattle.tag_loader.proofs.Rooms.{room_counted}
use Rattle.tag_index.specs.declared.TagIndex.{TagIndex}

-- a refusal that makes zeros
call_refused : {file : List ℕ} {before after : Lists} {answer : Result (Loaded × Repeats) Refusal} (why : Refusal)
    → load_answer file before ≡ Err why → clears why ≡ true → answer ≡ Err why → AllCleared before after
    → LoadCall file before after answer
call_refused why is zeros e z =
    record {
      answered = e ∙ sym is;
      tags = rw (is, zeros) z.tags_zero;
      left_numbers = rw (is, zeros) z.left.numbers_zero;
      left_ends = rw (is, zeros) z.left.ends_zero;
      left_items = rw (is, zeros) z.left.items_zero;
      right_numbers = rw (is, zeros) z.right.numbers_zero;
      right_ends = rw (is, zeros) z.right.ends_zero;
      right_items = rw (is, zeros) z.right.items_zero;
    }

-- a file at fault: the refusal of the first pass is the answer
pub call_fault : {file : List ℕ} {index : TagIndex} {before after : Lists} {r : Result (Loaded × Repeats) Refusal} (why : Refusal)
    → Scanned file index r → r ≡ Err why → AllCleared before after → LoadCall file before after r
call_fault {file} {index} {before} {after} {r} why s e z =
    let fault =
    tested_refused (file_fault file) (totals_of (records file)) (repeat_totals (records file)) why (sym s.answer ∙ e) in
    call_refused why (refuses_fault file before why fault) (fault_clears file why fault) e z

-- no fault: the totals and the repeats are the file's
pub record Sound (file : List ℕ) (total : Loaded) (repeats : Repeats) : Type 0 where
  pub clean : file_fault file ≡ Ok tt
  pub counts : total ≡ totals_of (records file)
  pub repeated : repeats ≡ repeat_totals (records file)

module _ {file : List ℕ} {index : TagIndex} {r : Result (Loaded × Repeats) Refusal} {total : Loaded} {repeats : Repeats}
    (s : Scanned file index r) (e : r ≡ Ok (total, repeats)) where
  sound : Sound file total repeats
  sound =
      let all =
      tested_loaded (file_fault file) (totals_of (records file)) (repeat_totals (records file)) total repeats (sym s.answer ∙ e) in
      record { clean = all.0; counts = all.1; repeated = all.2 }

  pub sound_limited : Limited total
  sound_limited = subst (λ (t : Loaded). Limited t) (sym sound.counts) (s.taken sound.clean).limited

  module _ (lent : Lists) where
    same_room : has_room total (room_in lent) ≡ room_for (filled (records file)) lent
    same_room = ap (λ (t : Loaded). has_room t (room_in lent)) sound.counts ∙ room_counted (records file) lent

    -- a list is too short
    pub call_short : {b : Bool} {after : Lists} → b ≡ has_room total (room_in lent) → not b ≡ true → AllCleared lent after
        → LoadCall file lent after (Err ShortOutput)
    call_short {b} is short z =
        call_refused ShortOutput (refuses_short file lent sound.clean (sym same_room ∙ sym is ∙ not-true b short)) refl refl z

    -- there is room
    module _ {b : Bool} (is : b ≡ has_room total (room_in lent)) (enough : not b ≡ false) where
      room_here : room_for (filled (records file)) lent ≡ true
      room_here = sym same_room ∙ sym is ∙ not-false b enough

      pub room_fillable : Fillable file index total.tag_count lent
      room_fillable =
          record {
            taken = s.taken sound.clean;
            count = ap (λ (q : Loaded). q.tag_count) sound.counts;
            room = room_here;
          }

      pub call_loaded : {after : Lists} → AllFilled (records file) lent after → LoadCall file lent after (Ok (total, repeats))
      call_loaded z =
          let accepted = accepts file lent sound.clean room_here in
          record {
            answered = ap₂ load_of sound.counts sound.repeated ∙ sym accepted;
            tags = rw accepted z.tags_filled;
            left_numbers = rw accepted z.left_numbers_filled;
            left_ends = rw accepted z.left_ends_filled;
            left_items = rw accepted z.left_items_filled;
            right_numbers = rw accepted z.right_numbers_filled;
            right_ends = rw accepted z.right_ends_filled;
            right_items = rw accepted z.right_items_filled;
          }
