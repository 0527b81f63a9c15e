-- A file without a fault is wholly covered by its records: where they end, the reader says that there is no more, and that is
-- the file's end. Document 01, "Tag file": "records fill the file".
use mathlib.Core.Path.{◌≡◌, refl, sym, ap, subst}
use Prim.Native.Nat.{ℕ, zero, suc, ◌+◌, ◌≤◌}
use mathlib.Core.List.{List, [], ◌∷◌}
use mathlib.Core.Bool.{Bool, true, false, cond}
use native.Mathlib.Omega.{arith}
use borrow.Author.Tests.{eqb-true}
use lib.Dec.{eqb}
use lib.ListN.{length}
use Rattle.std.specs.Prelude.{Ok}
use Rattle.lists.specs.Lists.{sum}
use Rattle.sets.specs.declared.Side.{Side}
use Rattle.sets.specs.declared.Side.TheVariants.{Left, Right}
use Rattle.sets.specs.declared.Refusal.TheVariants.{Malformed}
use Rattle.tag_file.specs.Reading.{marked, whole_at, record_at, read_at, tags_at}
use Rattle.tag_file.specs.Records.{onward, records_from, total_length, records}
use Rattle.tag_file.specs.Loading.{Lists, refusal_of, file_fault, LoadCall}
use Rattle.tag_file.specs.declared.Loaded.{Loaded}
use Rattle.tag_file.specs.declared.Repeats.{Repeats}
use Rattle.tag_file.specs.declared.ReadAnswer.{ReadAnswer}
use Rattle.tag_file.specs.declared.ReadAnswer.TheVariants.{Record, NoMore, Refused}
use Rattle.tag_file.proofs.AnswerLaws.{accepted}
use Rattle.tag_file.proofs.RecordLaws.{read_whole, length-tags_at}
use Rattle.tag_file.proofs.FaultFree.{free_from, free_nil}

-- whether a whole record was read
unfoldable is_record : ReadAnswer → Bool
is_record (Record side number count place next) = true
is_record NoMore = false
is_record (Refused why) = false

module _ (file : List ℕ) where
  -- where there are no records, none is read at the place itself
  none_here : (at : ℕ) → is_record (read_at file at) ≡ false → is_record (read_at file (at + 0)) ≡ false
  none_here at none = let same : at ≡ at + 0 = omega arith in subst (λ (k : ℕ). is_record (read_at file k) ≡ false) same none

  -- with fuel for every byte that is left, no whole record stands where the records end
  ends_from_lem : (fuel at : ℕ) → length file ≤ at + fuel
      → is_record (read_at file (at + total_length (records_from fuel file at))) ≡ false
  unfolding records_from sum is_record
  ends_from_lem zero at enough = none_here at (here (read_at file at) refl)
    where
      here : (a : ReadAnswer) → read_at file at ≡ a → is_record a ≡ false
      here (Record s n c p next) e =
          let w = read_whole file at s n c p next e in
          absurd (omega (arith, w.place, w.past, w.within))
      here NoMore e = refl
      here (Refused why) e = refl
  ends_from_lem (suc fuel) at enough = here (λ next. ends_from_lem fuel next) (read_at file at) refl
    where
      here : ((next : ℕ) → length file ≤ next + fuel
          → is_record (read_at file (next + total_length (records_from fuel file next))) ≡ false)
          → (a : ReadAnswer) → read_at file at ≡ a
          → is_record (read_at file (at + total_length (onward a file (λ next. records_from fuel file next)))) ≡ false
      here again (Record s n c p next) e =
          let w = read_whole file at s n c p next e in
          let size = length-tags_at c file p in
          let rest = records_from fuel file next in
          let same : next + total_length rest ≡ at + total_length (record { side = s; number = n; tags = tags_at c file p } ∷ rest) =
          omega (arith, w.place, w.past, size) in
          subst (λ (k : ℕ). is_record (read_at file k) ≡ false) same (again next (omega (arith, w.place, w.past)))
      here again NoMore e = none_here at (ap is_record e)
      here again (Refused why) e = none_here at (ap is_record e)

-- an answer that is neither a whole record nor a refusal
no_more : (a : ReadAnswer) → is_record a ≡ false → refusal_of a ≡ Ok tt → a ≡ NoMore
unfolding is_record
no_more (Record s n c p next) none clear = let z : ◌≡◌ {A = ℕ} 0 1 = cc in absurd (omega arith)
no_more NoMore none clear = refl
no_more (Refused why) none clear = let z : ◌≡◌ {A = ℕ} 0 1 = cc in absurd (omega arith)

-- there is no more only at the file's end
module _ (file : List ℕ) (at : ℕ) where
  pub end_only : read_at file at ≡ NoMore → at ≡ length file
  unfolding read_at
  end_only e = at_end (eqb at (length file)) refl e
    where
      record_not : {P : Type 0} (b : Bool) (side : Side) (n c p next : ℕ)
          → cond b (Record side n c p next) (Refused (Malformed at)) ≡ NoMore → P
      record_not true side n c p next e = let z : ◌≡◌ {A = ℕ} 0 1 = cc in absurd (omega arith)
      record_not false side n c p next e = let z : ◌≡◌ {A = ℕ} 0 1 = cc in absurd (omega arith)

      right : {P : Type 0} (b : Bool) → cond b (record_at Right file at) (Refused (Malformed at)) ≡ NoMore → P
      right true e = record_not (whole_at file at) Right _ _ _ _ e
      right false e = let z : ◌≡◌ {A = ℕ} 0 1 = cc in absurd (omega arith)

      left : {P : Type 0} (b : Bool)
          → cond b (record_at Left file at) (cond (marked Right file at) (record_at Right file at) (Refused (Malformed at)))
          ≡ NoMore
          → P
      left true e = record_not (whole_at file at) Left _ _ _ _ e
      left false e = right (marked Right file at) e

      at_end : (b : Bool) → eqb at (length file) ≡ b
          → cond b NoMore
          (cond (marked Left file at) (record_at Left file at)
          (cond (marked Right file at) (record_at Right file at) (Refused (Malformed at))))
          ≡ NoMore
          → at ≡ length file
      at_end true t e = eqb-true at (length file) t
      at_end false t e = left (marked Left file at) e

-- the reading of a file without a fault ends at the file's end
module _ (file : List ℕ) (clear : file_fault file ≡ Ok tt) where
  pub reading_ends : read_at file (total_length (records file)) ≡ NoMore
  unfolding file_fault
  reading_ends =
      let start : 0 + total_length (records file) ≡ total_length (records file) = omega arith in
      no_more (read_at file (total_length (records file)))
      (subst (λ (k : ℕ). is_record (read_at file k) ≡ false) start (ends_from_lem file (length file) 0 (omega arith)))
      (free_from [] (records file) (refusal_of (read_at file (total_length (records file)))) free_nil clear).1

  pub records_cover : total_length (records file) ≡ length file
  records_cover = end_only file (total_length (records file)) reading_ends

-- the same of a load that is accepted
pub load_covers : (file : List ℕ) {before after : Lists} {loaded : Loaded} {repeats : Repeats}
    → LoadCall file before after (Ok (loaded, repeats)) → total_length (records file) ≡ length file
load_covers file {before} {after} {loaded} {repeats} call =
    records_cover file (accepted file before loaded repeats (sym call.answered)).clear
