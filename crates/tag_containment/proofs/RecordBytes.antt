-- The bytes of a file's records one after the other are the bytes that were read: what a whole record says gives its bytes back.
-- So a file of bytes without a fault is its records' bytes and nothing else.
use mathlib.Core.Path.{◌≡◌, refl, sym, ap, subst, ◌∙◌}
use Prim.Native.Nat.{ℕ, zero, suc, ◌+◌, ◌*◌, ◌/◌, ◌%◌, ◌<◌, ◌≤◌}
use mathlib.Core.List.{List, [], ◌∷◌, ◌++◌, append_assoc, append-nil}
use mathlib.Core.Bool.{Bool, true, false, cond}
use native.Mathlib.Omega.{arith}
use borrow.Author.Tests.{eqb-true}
use lib.Arith.{digits_div, digits_mod}
use lib.Dec.{eqb}
use lib.ListN.{length, get_or, take, drop, take-append-drop}
use lib.Seq.{drop-cons, drop-drop, drop-length, take-add}
use Rattle.std.specs.Prelude.{Ok}
use Rattle.lists.specs.Lists.{prefix, sum}
use Rattle.lists.proofs.Bools.{and_left, and_right}
use Rattle.sets.specs.declared.Side.{Side}
use Rattle.sets.specs.declared.Side.TheVariants.{Left, Right}
use Rattle.sets.specs.declared.Refusal.TheVariants.{Malformed}
use Rattle.tag_file.specs.Format.{tag_length, tag_bytes, mark, record_bytes}
use Rattle.tag_file.specs.Reading.{marked, whole_at, record_at, read_at, tags_at}
use Rattle.tag_file.specs.Records.{onward, records_from, total_length, records}
use Rattle.tag_file.specs.Loading.{Lists, file_fault, LoadCall}
use Rattle.tag_file.specs.declared.Loaded.{Loaded}
use Rattle.tag_file.specs.declared.Repeats.{Repeats}
use Rattle.tag_file.specs.declared.ReadAnswer.{ReadAnswer}
use Rattle.tag_file.specs.declared.ReadAnswer.TheVariants.{Record, NoMore, Refused}
use Rattle.tag_file.proofs.AnswerLaws.{accepted}
use Rattle.tag_file.proofs.Bytes.{bytes_of-tag_at}
use Rattle.tag_file.proofs.RecordLaws.{read_whole, length-tags_at}
use Rattle.tag_round_trip.specs.Rewritten.{bytes_of_records}
use Rattle.tag_containment.proofs.Covered.{records_cover}

prefix-split : (front xs : List ℕ) → prefix front xs ≡ true → xs ≡ front ++ drop (length front) xs
unfolding prefix
prefix-split [] xs e = refl
prefix-split (x ∷ front) [] e = let z : ◌≡◌ {A = ℕ} 0 1 = cc in absurd (omega arith)
prefix-split (x ∷ front) (y ∷ ys) e =
    let same : x ≡ y = eqb-true x y (and_left (eqb x y) (prefix front ys) e) in
    ap (λ (l : List ℕ). y ∷ l) (prefix-split front ys (and_right (eqb x y) (prefix front ys) e))
    ∙ ap (λ (b : ℕ). b ∷ (front ++ drop (length front) ys)) (sym same)

-- ---- a whole record that was read has its side's mark

module _ (file : List ℕ) (at : ℕ) (s : Side) (n c p next : ℕ) where
  side_read : (whole : Bool) (side : Side) (number count place past : ℕ)
      → cond whole (Record side number count place past) (Refused (Malformed at)) ≡ Record s n c p next → side ≡ s
  side_read true side number count place past e = cc
  side_read false side number count place past e = let z : ◌≡◌ {A = ℕ} 0 1 = cc in absurd (omega arith)

  mark_read : (side : Side) → marked side file at ≡ true → record_at side file at ≡ Record s n c p next → marked s file at ≡ true
  mark_read side there e = subst (λ (k : Side). marked k file at ≡ true) (side_read (whole_at file at) side _ _ _ _ e) there

  read_marked : read_at file at ≡ Record s n c p next → marked s file at ≡ true
  unfolding read_at
  read_marked e = at_end (eqb at (length file)) e
    where
      right : (b : Bool) → marked Right file at ≡ b
          → cond b (record_at Right file at) (Refused (Malformed at)) ≡ Record s n c p next → marked s file at ≡ true
      right true there e = mark_read Right there e
      right false there e = let z : ◌≡◌ {A = ℕ} 0 1 = cc in absurd (omega arith)

      left : (b : Bool) → marked Left file at ≡ b
          → cond b (record_at Left file at) (cond (marked Right file at) (record_at Right file at) (Refused (Malformed at)))
          ≡ Record s n c p next
          → marked s file at ≡ true
      left true there e = mark_read Left there e
      left false there e = right (marked Right file at) refl e

      at_end : (b : Bool)
          → cond b NoMore
          (cond (marked Left file at) (record_at Left file at)
          (cond (marked Right file at) (record_at Right file at) (Refused (Malformed at))))
          ≡ Record s n c p next
          → marked s file at ≡ true
      at_end true e = let z : ◌≡◌ {A = ℕ} 0 1 = cc in absurd (omega arith)
      at_end false e = left (marked Left file at) refl e

length-mark : (side : Side) → length (mark side) ≡ 2
length-mark Left = refl
length-mark Right = refl

-- ---- the bytes of what was read

module _ (file : List ℕ) (low : (i : ℕ) → get_or file i 0 < 256) where
  tags_bytes : (n at : ℕ) → at + tag_length * n ≤ length file → tag_bytes (tags_at n file at) ≡ take (tag_length * n) (drop at file)
  unfolding tags_at tag_bytes
  tags_bytes zero at within = refl
  tags_bytes (suc n) at within =
      let size : tag_length * suc n ≡ tag_length + tag_length * n = omega arith in
      rw (
        bytes_of-tag_at file at (omega arith) low,
        tags_bytes n (at + tag_length) (omega arith),
        size,
        take-add tag_length (tag_length * n) (drop at file),
        drop-drop tag_length at file,
      )

  next_byte : (at next : ℕ) → at < length file → suc at ≡ next → drop at file ≡ get_or file at 0 ∷ drop next file
  next_byte at next within e = drop-cons file at 0 within ∙ ap (λ (k : ℕ). get_or file at 0 ∷ drop k file) e

  -- a whole record's bytes, then what follows it
  record_bytes_lem : (at : ℕ) (s : Side) (n c p next : ℕ) → read_at file at ≡ Record s n c p next
      → drop at file ≡ record_bytes s n (tags_at c file p) ++ drop next file
  record_bytes_lem at s n c p next e =
      let w = read_whole file at s n c p next e in
      let place = w.place in
      let past = w.past in
      let within = w.within in
      let tags : drop p file ≡ tag_bytes (tags_at c file p) ++ drop next file =
      sym (take-append-drop (tag_length * c) (drop p file))
      ∙ rw (tags_bytes c p (omega arith), drop-drop (tag_length * c) p file, past) in
      let high : n / 256 ≡ get_or file (at + 2) 0 =
      ap (λ (k : ℕ). k / 256) w.number ∙ digits_div (get_or file (at + 2) 0) (low (at + 3)) in
      let low_byte : n % 256 ≡ get_or file (at + 3) 0 =
      ap (λ (k : ℕ). k % 256) w.number ∙ digits_mod (get_or file (at + 2) 0) (low (at + 3)) in
      let count : length (tags_at c file p) ≡ get_or file (at + 4) 0 = length-tags_at c file p ∙ w.count in
      let head = n / 256 ∷ n % 256 ∷ length (tags_at c file p) ∷ [] in
      let body : drop (at + 2) file ≡ head ++ (tag_bytes (tags_at c file p) ++ drop next file) =
      next_byte (at + 2) (at + 3) (omega arith) (omega arith)
      ∙ ap (λ (l : List ℕ). get_or file (at + 2) 0 ∷ l) (next_byte (at + 3) (at + 4) (omega arith) (omega arith))
      ∙ ap (λ (l : List ℕ). get_or file (at + 2) 0 ∷ get_or file (at + 3) 0 ∷ l) (next_byte (at + 4) p (omega arith) (omega arith))
      ∙ rw (high, low_byte, count, tags) in
      prefix-split (mark s) (drop at file) (read_marked file at s n c p next e)
      ∙ rw (length-mark s, drop-drop 2 at file, body)
      (sym (append_assoc (mark s ++ head) (tag_bytes (tags_at c file p)) (drop next file)
      ∙ append_assoc (mark s) head (tag_bytes (tags_at c file p) ++ drop next file)))

  -- the records' bytes, then what follows them
  bytes_from : (fuel at : ℕ)
      → drop at file ≡ bytes_of_records (records_from fuel file at) ++ drop (at + total_length (records_from fuel file at)) file
  unfolding records_from bytes_of_records sum
  bytes_from zero at = let same : at ≡ at + 0 = omega arith in ap (λ (k : ℕ). drop k file) same
  bytes_from (suc fuel) at = here (λ next. bytes_from fuel next) (read_at file at) refl
    where
      here : ((next : ℕ) → drop next file
          ≡ bytes_of_records (records_from fuel file next) ++ drop (next + total_length (records_from fuel file next)) file)
          → (a : ReadAnswer) → read_at file at ≡ a
          → drop at file
          ≡ bytes_of_records (onward a file (λ next. records_from fuel file next))
          ++ drop (at + total_length (onward a file (λ next. records_from fuel file next))) file
      here again (Record s n c p next) e =
          let w = read_whole file at s n c p next e in
          let size = length-tags_at c file p in
          let rest = records_from fuel file next in
          let first = record_bytes s n (tags_at c file p) in
          let same : next + total_length rest ≡ at + total_length (record { side = s; number = n; tags = tags_at c file p } ∷ rest) =
          omega (arith, w.place, w.past, size) in
          record_bytes_lem at s n c p next e ∙ ap (λ (l : List ℕ). first ++ l) (again next)
          ∙ sym (append_assoc first (bytes_of_records rest) (drop (next + total_length rest) file))
          ∙ ap (λ (k : ℕ). (first ++ bytes_of_records rest) ++ drop k file) same
      here again NoMore e = let same : at ≡ at + 0 = omega arith in ap (λ (k : ℕ). drop k file) same
      here again (Refused why) e = let same : at ≡ at + 0 = omega arith in ap (λ (k : ℕ). drop k file) same

  -- a file without a fault is the bytes of its records
  pub file_bytes : file_fault file ≡ Ok tt → bytes_of_records (records file) ≡ file
  file_bytes clear =
      let whole : 0 + total_length (records file) ≡ length file = omega (arith, records_cover file clear) in
      sym (bytes_from (length file) 0 ∙ ap (λ (k : ℕ). bytes_of_records (records file) ++ drop k file) whole
      ∙ rw (drop-length file) (append-nil (bytes_of_records (records file))))

  -- the same of a load that is accepted
  pub load_bytes : {before after : Lists} {loaded : Loaded} {repeats : Repeats}
      → LoadCall file before after (Ok (loaded, repeats)) → bytes_of_records (records file) ≡ file
  load_bytes {before} {after} {loaded} {repeats} call =
      file_bytes (accepted file before loaded repeats (sym call.answered)).clear
