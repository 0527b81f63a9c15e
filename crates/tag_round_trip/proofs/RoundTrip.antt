-- The round trip: whatever file the loader accepts, the writer accepts what it filled, and loading the file so written, with
-- lists that are long enough, gives the same counts, tag table, record numbers, ends and items, and no repeats. The hypotheses and
-- conclusions are what the contracts of the loader and the writer say of three calls one after the other. It is shown of any lists
-- that hold what records give.
use mathlib.Core.Path.{◌≡◌, refl, sym, ap, ap₂, subst, ◌∙◌}
use Prim.Native.Nat.{ℕ, ◌≤◌, ◌<◌}
use mathlib.Core.List.{List, [], ◌++◌}
use mathlib.Core.Bool.{true}
use native.Mathlib.Omega.{arith}
use lib.ListN.{length, take, drop, get_or}
use lib.Seq.{take_at}
use Rattle.std.specs.Prelude.{Result, Err, Ok, ⊤}
use Rattle.sets.specs.declared.Side.TheVariants.{Left, Right}
use Rattle.sets.specs.Refusals.{unless}
use Rattle.tag_file.specs.declared.Loaded.{Loaded}
use Rattle.tag_file.specs.declared.Repeats.{Repeats}
use Rattle.tag_file.specs.Records.{TagRecord, records, tag_table}
use Rattle.tag_file.specs.Repeats.{repeat_totals, no_repeats}
use Rattle.tag_file.specs.Loading.{Lists, filled, totals_of, file_fault, first_fault, refusal_of, room_for, load_answer, lists_after}
use Rattle.tag_file.specs.Loading.{LoadCall}
use Rattle.tag_file.specs.declared.ReadAnswer.{ReadAnswer}
use Rattle.tag_writer_spec.specs.Writer.{file_bytes, room_test, written_within, write_answer, file_after, WriteCall}
use Rattle.tag_writer_spec.proofs.Tests.{lists_good, room_passed}
use Rattle.tag_writer_spec.proofs.Answers.{answer_passed, within}
use Rattle.tag_file.proofs.ItemCount.{length-tag_bytes}
use Rattle.tag_file.proofs.AnswerLaws.{accepted, accepts, call_lists}
use Rattle.tag_round_trip.specs.Rewritten.{rewritten}
use Rattle.tag_round_trip.specs.Trips.{parts_of, Fills, loaded_from, written_to, Loads, Trip}
use Rattle.tag_round_trip.proofs.Accepted.{lists_fill, parts_filled}
use Rattle.tag_round_trip.proofs.Faults.{free_none, free_rewritten}
use Rattle.tag_round_trip.proofs.FileRecords.{table_fit, Loadable, file_loadable}
use Rattle.tag_round_trip.proofs.Refilled.{side_good, lists_records}
use Rattle.tag_round_trip.proofs.Rewriting.{filled-rewritten, counts_rewritten, repeats_rewritten}
use Rattle.tag_round_trip.proofs.Values.{tag_bytes_low}
use Rattle.tag_round_trip.proofs.Written.{written_records, written_end}
use Rattle.sets.specs.declared.Refusal.{Refusal}

if_written : (t : Result ⊤ Refusal) (m n : ℕ) → unless Err t (Ok m) ≡ Ok n → (t ≡ Ok tt) × (m ≡ n)
if_written (Ok _) m n e = (refl, cc)
if_written (Err why) m n e = let z : ◌≡◌ {A = ℕ} 0 1 = cc in absurd (omega arith)

module _ (rs : List TagRecord) (so : Loadable rs) where
  -- the output's room alone decides whether the writer accepts what was filled
  decides : (room : ℕ) → written_within room (file_bytes (filled rs))
      ≡ write_answer (length (tag_table rs)) (filled rs) room
  decides room =
      let T = length (tag_table rs) in
      answer_passed T (filled rs) room
      (lists_good T (filled rs) so.free.tags (length-tag_bytes (tag_table rs))
      (side_good rs Left so.few (so.free.places Left) (so.free.entries Left))
      (side_good rs Right so.few (so.free.places Right) (so.free.entries Right)))

  writes : (room : ℕ) → length (file_bytes (filled rs)) ≤ room
      → write_answer (length (tag_table rs)) (filled rs) room
      ≡ Ok (length (file_bytes (filled rs)))
  writes room enough = sym (within room (file_bytes (filled rs)) _ refl enough ∙ decides room)

  -- where it accepts, the output has room, and the length is the file's
  written_room : (room n : ℕ) → write_answer (length (tag_table rs)) (filled rs) room ≡ Ok n
      → (length (file_bytes (filled rs)) ≤ room) × (length (file_bytes (filled rs)) ≡ n)
  written_room room n e =
      let bytes = file_bytes (filled rs) in
      let parts = if_written (room_test room (length bytes)) (length bytes) n (decides room ∙ e) in
      (room_passed room (length bytes) parts.0, parts.1)

  -- the records that are read again
  reads : records (file_bytes (filled rs)) ≡ rewritten rs
  reads =
      written_records (filled rs) (tag_bytes_low (tag_table rs))
      ∙ lists_records rs (table_fit rs so.fit)

  clear_again : file_fault (file_bytes (filled rs)) ≡ Ok tt
  unfolding file_fault
  clear_again =
      let bytes = file_bytes (filled rs) in
      ap (λ (a : ReadAnswer). first_fault [] (records bytes) (refusal_of a))
      (written_end (filled rs) (tag_bytes_low (tag_table rs)))
      ∙ ap (λ (l : List TagRecord). first_fault [] l (Ok tt)) reads
      ∙ free_none [] (rewritten rs) (free_rewritten rs so.free)

  filled_again : filled (records (file_bytes (filled rs))) ≡ filled rs
  filled_again = ap filled reads ∙ filled-rewritten rs

  counts_again : totals_of (records (file_bytes (filled rs))) ≡ totals_of rs
  counts_again = ap totals_of reads ∙ counts_rewritten rs

  repeats_again : repeat_totals (records (file_bytes (filled rs))) ≡ no_repeats
  repeats_again = ap repeat_totals reads ∙ repeats_rewritten rs

  -- what the output list holds is the file
  written_bytes : (out : List ℕ) → length (file_bytes (filled rs)) ≤ length out
      → written_to (length (tag_table rs)) (filled rs) out ≡ file_bytes (filled rs)
  written_bytes out enough =
      let bytes = file_bytes (filled rs) in
      ap (λ (a : Result ℕ Refusal). take (length bytes) (file_after a bytes out)) (writes (length out) enough)
      ∙ take_at bytes (drop (length bytes) out) (length bytes) refl

  -- a load of that file
  loads_again : (lent : Lists) → room_for (filled rs) lent ≡ true
      → Loads (file_bytes (filled rs)) lent (totals_of rs) no_repeats (filled rs)
  loads_again lent room =
      let bytes = file_bytes (filled rs) in
      let answer : load_answer bytes lent ≡ Ok ((totals_of (records bytes)), (repeat_totals (records bytes))) =
      accepts bytes lent clear_again (rw filled_again room) in
      record {
        answer = answer ∙ ap₂ (λ (c : Loaded) (q : Repeats). Ok (c, q)) counts_again repeats_again;
        lists =
            ap (λ (c : Loaded). loaded_from bytes lent c) (sym counts_again)
            ∙ parts_filled bytes lent (repeat_totals (records bytes)) answer ∙ filled_again;
      }

  trip_filled : (out : List ℕ) → length (file_bytes (filled rs)) ≤ length out
      → Trip (totals_of rs) (filled rs) out
  trip_filled out enough =
      record {
        written = writes (length out) enough;
        again = λ lent room. rw (written_bytes out enough) (loads_again lent room);
      }

-- ---- the theorem

-- of any lists that hold what such records give
module _ (rs : List TagRecord) (so : Loadable rs) (counts : Loaded) (got : Lists) (fills : Fills rs counts got) where
  pub fills_trip : (out : List ℕ) → length (file_bytes (parts_of counts got)) ≤ length out → Trip counts (parts_of counts got) out
  fills_trip out enough =
      subst (λ (c : Loaded). Trip c (parts_of counts got) out) (sym fills.counted)
      (subst (λ (l : Lists). Trip (totals_of rs) l out) (sym fills.lists)
      (trip_filled rs so out (subst (λ (l : Lists). length (file_bytes l) ≤ length out) fills.lists enough)))

  -- the same of two calls, by what their contracts say: a write of what was filled that is accepted, and a load of what was
  -- written into lists that are long enough
  pub fills_again : (out wrote : List ℕ) (n : ℕ) (again more : Lists) (answer : Result (Loaded × Repeats) Refusal)
      → WriteCall counts.tag_count (parts_of counts got) out wrote (Ok n)
      → LoadCall (take n wrote) again more answer → room_for (parts_of counts got) again ≡ true
      → (answer ≡ Ok (counts, no_repeats)) × (parts_of counts more ≡ parts_of counts got)
  fills_again out wrote n again more answer second third room =
      let bytes = file_bytes (filled rs) in
      let same = fills.lists in
      let counted = sym fills.counted in
      let wrote_it : write_answer (length (tag_table rs)) (filled rs) (length out) ≡ Ok n =
      ap (λ (c : Loaded). write_answer c.tag_count (filled rs) (length out)) counted
      ∙ ap (λ (l : Lists). write_answer counts.tag_count l (length out)) (sym same) ∙ sym second.answered in
      let parts = written_room rs so (length out) n wrote_it in
      let output : take n wrote ≡ bytes =
      ap (take n)
      (second.file ∙ ap (λ (a : Result ℕ Refusal). file_after a (file_bytes (parts_of counts got)) out) (sym second.answered)
      ∙ ap (λ (l : Lists). file_bytes l ++ drop (length (file_bytes l)) out) same)
      ∙ take_at bytes (drop (length bytes) out) n parts.1 in
      let loads = loads_again rs so again (ap (λ (l : Lists). room_for l again) (sym same) ∙ room) in (
        third.answered ∙ ap (λ (f : List ℕ). load_answer f again) output ∙ loads.answer
            ∙ ap (λ (c : Loaded). Ok (c, no_repeats)) counted,
        ap (parts_of counts) (call_lists third) ∙ ap (λ (f : List ℕ). parts_of counts (lists_after f again)) output
            ∙ ap (loaded_from bytes again) (sym counted) ∙ loads.lists ∙ sym same,
      )

  -- the records of the file that is written have no repeats
  pub fills_repeats : repeat_totals (records (file_bytes (parts_of counts got))) ≡ no_repeats
  fills_repeats = ap (λ (l : Lists). repeat_totals (records (file_bytes l))) fills.lists ∙ repeats_again rs so

-- of a file that the loader accepts, whatever repeats it has
load_fill : (file : List ℕ) (lent got : Lists) (counts : Loaded) (repeats : Repeats)
    → load_answer file lent ≡ Ok (counts, repeats) → got ≡ lists_after file lent → Fills (records file) counts got
load_fill file lent got counts repeats e after =
    lists_fill (records file) lent got (load_answer file lent) counts repeats e
    (sym (accepted file lent counts repeats e).counted) after

pub round_trip : (file : List ℕ) (lent : Lists) (counts : Loaded) (repeats : Repeats) → ((i : ℕ) → get_or file i 0 < 256)
    → load_answer file lent ≡ Ok (counts, repeats)
    → (out : List ℕ) → length (file_bytes (loaded_from file lent counts)) ≤ length out
    → Trip counts (loaded_from file lent counts) out
round_trip file lent counts repeats low e out enough =
    fills_trip (records file) (file_loadable file low (accepted file lent counts repeats e).clear) counts (lists_after file lent)
    (load_fill file lent (lists_after file lent) counts repeats e refl) out enough

-- the file that the writer writes from what was loaded has no repeats: a record has each of its tags once
pub written_repeats : (file : List ℕ) (lent : Lists) (counts : Loaded) (repeats : Repeats) → ((i : ℕ) → get_or file i 0 < 256)
    → load_answer file lent ≡ Ok (counts, repeats)
    → repeat_totals (records (file_bytes (loaded_from file lent counts))) ≡ no_repeats
written_repeats file lent counts repeats low e =
    fills_repeats (records file) (file_loadable file low (accepted file lent counts repeats e).clear) counts (lists_after file lent)
    (load_fill file lent (lists_after file lent) counts repeats e refl)

-- the round trip of three calls: a load that is accepted, a write of what it filled that is accepted, and a load of what was written
-- into lists that are long enough
pub calls_round_trip : (file : List ℕ) (lent got : Lists) (counts : Loaded) (repeats : Repeats) (out wrote : List ℕ) (n : ℕ)
    (again more : Lists) (answer : Result (Loaded × Repeats) Refusal) → ((i : ℕ) → get_or file i 0 < 256)
    → LoadCall file lent got (Ok (counts, repeats))
    → WriteCall counts.tag_count (parts_of counts got) out wrote (Ok n)
    → LoadCall (take n wrote) again more answer → room_for (parts_of counts got) again ≡ true
    → (answer ≡ Ok (counts, no_repeats)) × (parts_of counts more ≡ parts_of counts got)
calls_round_trip file lent got counts repeats out wrote n again more answer low first second third room =
    let e : load_answer file lent ≡ Ok (counts, repeats) = sym first.answered in
    fills_again (records file) (file_loadable file low (accepted file lent counts repeats e).clear) counts got
    (load_fill file lent got counts repeats e (call_lists first)) out wrote n again more answer second third room
