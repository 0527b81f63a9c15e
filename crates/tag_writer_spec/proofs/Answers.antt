-- Laws of the writer's answer: what a side without a fault has, its bytes put one side after the other, and the call.
use mathlib.Core.Path.{◌≡◌, sym, ap, ◌∙◌}
use mathlib.Core.List.{List, ◌++◌}
use mathlib.Core.Bool.{false}
use Prim.Native.Nat.{ℕ, ◌+◌, ◌*◌, ◌/◌, ◌≤◌, ◌<◌}
use native.Mathlib.Nat.{zero-add}
use native.Mathlib.Omega.{arith}
use borrow.Author.Tests.{lt-ltb, le-ltb}
use lib.ListN.{length, drop, length-append}
use Rattle.std.specs.Prelude.{Result, Err, Ok}
use Rattle.sets.specs.Limits.{max_sets, max_entries}
use Rattle.sets.specs.Collections.{sets_of, entries}
use Rattle.sets.specs.Refusals.{clears}
use Rattle.sets.specs.Lent.{after_refusal}
use Rattle.sets.specs.declared.Side.{Side}
use Rattle.sets.specs.declared.Side.TheVariants.{Left, Right}
use Rattle.sets.specs.declared.Refusal.{Refusal}
use Rattle.sets.specs.declared.Refusal.TheVariants.{ShortOutput}
use Rattle.sets.proofs.Good.{good_places, good_entries}
use Rattle.tag_file.specs.Format.{tag_length, head_length}
use Rattle.tag_file.specs.Loading.{Lists}
use lib.Seq.{sets}
use Rattle.tag_writer_spec.specs.Inner.{GoodSide, GoodLists}
use Rattle.tag_writer_spec.specs.Writer.{records_of, left_bytes, right_bytes, file_bytes, lists_test, written_within, write_answer}
use Rattle.tag_writer_spec.specs.Writer.{file_after, WriteCall}
use Rattle.lists.proofs.Filling.{sets_then, sets_front}
use Rattle.tag_writer_spec.proofs.Sides.{records-length}
use Rattle.tag_writer_spec.proofs.Tests.{lists_keeping}

-- the size of a side without a fault
module _ (tags numbers ends items : List ℕ) (so : GoodSide tags numbers ends items) where
  pub side_limits : (length ends ≤ max_sets) × (entries ends ≤ max_entries)
  side_limits =
      let count = length tags / tag_length in
      (good_places count ends items so.good, (good_entries count ends items so.good).few)

  side_size : (side : Side)
      → length (records_of side tags numbers (sets_of ends items)) ≡ head_length * length ends + tag_length * entries ends
  side_size side =
      let whole = records-length (length tags / tag_length) side tags numbers 0 0 ends items so.good so.numbered in
      omega arith

-- the two sides' records, put one after the other, are the whole file
module _ (l : Lists) (so : GoodLists l) where
  pub left_size : length (left_bytes l) ≡ head_length * length l.left_ends + tag_length * entries l.left_ends
  left_size = side_size l.tags l.left_numbers l.left_ends l.left_items so.left Left

  pub right_size : length (right_bytes l) ≡ head_length * length l.right_ends + tag_length * entries l.right_ends
  right_size = side_size l.tags l.right_numbers l.right_ends l.right_items so.right Right

  pub file_size : length (file_bytes l) ≡ length (left_bytes l) + length (right_bytes l)
  unfolding file_bytes
  file_size = length-append (left_bytes l) _

  pub put_sides : (file file' file'' : List ℕ) (left : ℕ) → length (left_bytes l) ≡ left → length (file_bytes l) ≤ length file
      → file' ≡ sets file 0 (left_bytes l) → file'' ≡ sets file' left (right_bytes l)
      → file'' ≡ file_bytes l ++ drop (length (file_bytes l)) file
  unfolding file_bytes
  put_sides file file' file'' left n room e₁ e₂ =
      let both : sets file 0 (left_bytes l ++ right_bytes l) ≡ sets (sets file 0 (left_bytes l)) left (right_bytes l) =
      rw zero-add at (sets_then file 0 (left_bytes l) (right_bytes l) left n) in
      e₂ ∙ rw e₁ (sym both ∙ sets_front (left_bytes l ++ right_bytes l) file room)

-- the answer by the output's room
pub within : (room : ℕ) (bytes : List ℕ) (n : ℕ) → length bytes ≡ n → n ≤ room → Ok n ≡ written_within room bytes
within room bytes n e h = rw (e, le-ltb room n h)

pub short : (room : ℕ) (bytes : List ℕ) (n : ℕ) → length bytes ≡ n → room < n → Err ShortOutput ≡ written_within room bytes
short room bytes n e h = rw (e, lt-ltb room n h)

pub answer_passed : (T : ℕ) (l : Lists) (room : ℕ) → lists_test T l ≡ Ok tt
    → written_within room (file_bytes l) ≡ write_answer T l room
unfolding write_answer
answer_passed T l room passed = rw passed

-- the call: lists that are refused, and lists that passed their tests
module _ (T : ℕ) (l : Lists) (file : List ℕ) where
  kept_after : (why : Refusal) → clears why ≡ false → file ≡ after_refusal why file
  kept_after why keeps = rw keeps

  -- an answer that is right leaves the file that is right
  called : (answer : Result ℕ Refusal) (file' : List ℕ) → answer ≡ write_answer T l (length file)
      → file' ≡ file_after answer (file_bytes l) file → WriteCall T l file file' answer
  called answer file' e f =
      record { answered = e; file = f ∙ ap (λ (a : Result ℕ Refusal). file_after a (file_bytes l) file) e }

  pub call_refused : (why : Refusal) → lists_test T l ≡ Err why → WriteCall T l file file (Err why)
  unfolding write_answer
  call_refused why failed = called (Err why) file (rw failed) (kept_after why (lists_keeping T l why failed))

  pub call_passed : (answer : Result ℕ Refusal) (file' : List ℕ) → lists_test T l ≡ Ok tt
      → answer ≡ written_within (length file) (file_bytes l) → file' ≡ file_after answer (file_bytes l) file
      → WriteCall T l file file' answer
  call_passed answer file' passed e f = called answer file' (e ∙ answer_passed T l (length file) passed) f
