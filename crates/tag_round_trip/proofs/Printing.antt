-- Records written one after the other and read again are the same records: the reader takes each whole, and at the end says
-- that there is no more.
use mathlib.Core.Path.{◌≡◌, refl, sym, ap, ◌∙◌}
use Prim.Native.Nat.{ℕ, suc, ◌+◌, ◌*◌, ◌-◌, ◌/◌, ◌%◌, ◌≤◌}
use mathlib.Core.List.{List, [], ◌∷◌, ◌++◌, append_assoc}
use mathlib.Core.Bool.{Bool, true, false}
use native.Mathlib.Omega.{arith}
use borrow.Author.Tests.{ne_eqb}
use lib.ListN.{length, drop, get_or, length-append, length-drop}
use lib.Seq.{drop_at, drop-drop, get_or-drop}
use Rattle.lists.specs.Lists.{all, prefix, sum}
use Rattle.lists.proofs.Bools.{and_left, and_right}
use Rattle.sets.specs.declared.Side.{Side}
use Rattle.sets.specs.declared.Side.TheVariants.{Left, Right}
use Rattle.tag_file.specs.Format.{mark, tag_length, head_length, bytes_of, tag_bytes, record_head, record_bytes}
use Rattle.tag_file.specs.Reading.{read_at, record_at, tags_at}
use Rattle.tag_file.specs.Records.{TagRecord, total_length, records_at, records}
use Rattle.tag_file.specs.declared.ReadAnswer.TheVariants.{Record, NoMore}
use Rattle.tag_file.proofs.ReadLaws.{read_end, whole_record}
use Rattle.tag_file.proofs.RecordLaws.{records_next, records_end}
use Rattle.tag_file.proofs.ItemCount.{length-tag_bytes}
use Rattle.tag_writer_spec.proofs.Records.{length_head}
use Rattle.tag_round_trip.specs.Rewritten.{bytes_of_records}
use Rattle.tag_round_trip.proofs.Values.{tags_fit, first_fits, rest-fits, tag_at_here, drop_tag}

tags_at_here : (file : List ℕ) (at : ℕ) (tags rest : List ℕ) → tags_fit tags ≡ true → drop at file ≡ tag_bytes tags ++ rest
    → tags_at (length tags) file at ≡ tags
unfolding tags_at tag_bytes
tags_at_here file at [] rest fit here = refl
tags_at_here file at (t ∷ ts) rest fit here =
    let split : drop at file ≡ bytes_of tag_length t ++ (tag_bytes ts ++ rest) =
    here ∙ append_assoc (bytes_of tag_length t) (tag_bytes ts) rest in
    let next = drop_tag file at t (tag_bytes ts ++ rest) split in
    let first = tag_at_here file at t (tag_bytes ts ++ rest) split (first_fits t ts fit) in
    rw (first, tags_at_here file (at + tag_length) ts rest (rest-fits t ts fit) next)

-- the bytes of a head, and whose mark it has
module _ (number count : ℕ) (rest : List ℕ) where
  high_byte : (side : Side) → get_or (record_head side number count ++ rest) 2 0 ≡ number / 256
  high_byte Left = refl
  high_byte Right = refl

  low_byte : (side : Side) → get_or (record_head side number count ++ rest) 3 0 ≡ number % 256
  low_byte Left = refl
  low_byte Right = refl

  count_byte : (side : Side) → get_or (record_head side number count ++ rest) 4 0 ≡ count
  count_byte Left = refl
  count_byte Right = refl

module _ (file : List ℕ) (at number count : ℕ) (rest : List ℕ) (room : tag_length * count ≤ length rest) where
  whole_head : (side : Side) → drop at file ≡ record_head side number count ++ rest
      → record_at side file at ≡ Record side number count (at + head_length) (at + head_length + tag_length * count)
  whole_head side here =
      let long : length file - at ≡ head_length + length rest =
      sym (length-drop at file) ∙ ap length here ∙ rw (length-append, length_head side number count) in
      let high : get_or file (at + 2) 0 ≡ number / 256 =
      sym (get_or-drop at file 2 0) ∙ ap (λ (l : List ℕ). get_or l 2 0) here ∙ high_byte number count rest side in
      let low : get_or file (at + 3) 0 ≡ number % 256 =
      sym (get_or-drop at file 3 0) ∙ ap (λ (l : List ℕ). get_or l 3 0) here ∙ low_byte number count rest side in
      let tags : get_or file (at + 4) 0 ≡ count =
      sym (get_or-drop at file 4 0) ∙ ap (λ (l : List ℕ). get_or l 4 0) here ∙ count_byte number count rest side in
      let both : get_or file (at + 2) 0 * 256 + get_or file (at + 3) 0 ≡ number = omega arith in
      whole_record file at side (omega arith) (omega arith) ∙ rw (both, tags)

  read_head : (side : Side) → drop at file ≡ record_head side number count ++ rest
      → read_at file at ≡ Record side number count (at + head_length) (at + head_length + tag_length * count)
  unfolding read_at prefix
  read_head Left here =
      let long : length file - at ≡ suc (suc (suc (suc (suc (length rest))))) = sym (length-drop at file) ∙ ap length here in
      let marked : prefix (mark Left) (drop at file) ≡ true = ap (prefix (mark Left)) here in
      rw (ne_eqb at (length file) (λ e. omega arith), marked) (whole_head Left here)
  read_head Right here =
      let long : length file - at ≡ suc (suc (suc (suc (suc (length rest))))) = sym (length-drop at file) ∙ ap length here in
      let other : prefix (mark Left) (drop at file) ≡ false = ap (prefix (mark Left)) here in
      let marked : prefix (mark Right) (drop at file) ≡ true = ap (prefix (mark Right)) here in
      rw (ne_eqb at (length file) (λ e. omega arith), other, marked) (whole_head Right here)

-- ---- a whole file

-- whether the tags of each record fit
abbrev pub records_fit : List TagRecord → Bool
records_fit rs = all (λ r. tags_fit r.tags) rs

length-bytes_of_records : (rs : List TagRecord) → length (bytes_of_records rs) ≡ total_length rs
unfolding bytes_of_records sum
length-bytes_of_records [] = refl
length-bytes_of_records (r ∷ rs) =
    length-append (record_bytes r.side r.number r.tags) (bytes_of_records rs)
    ∙ rw (
      length-bytes_of_records rs,
      length-append (record_head r.side r.number (length r.tags)),
      length_head r.side r.number (length r.tags),
      length-tag_bytes,
    )

-- the records from a place on, where their bytes stand from there to the end
records_at_bytes : (file : List ℕ) (at : ℕ) (rs : List TagRecord) → records_fit rs ≡ true → at ≤ length file
    → drop at file ≡ bytes_of_records rs → records_at file at ≡ rs
unfolding bytes_of_records all
records_at_bytes file at [] fit within here =
    let none : length file - at ≡ 0 = sym (length-drop at file) ∙ ap length here in
    records_end file at (read_end file at (omega arith))
records_at_bytes file at (r ∷ rs) fit within here =
    let n = length r.tags in
    let rest = tag_bytes r.tags ++ bytes_of_records rs in
    let split : drop at file ≡ record_head r.side r.number n ++ rest =
    here ∙ append_assoc (record_head r.side r.number n) (tag_bytes r.tags) (bytes_of_records rs) in
    let tags : drop (at + head_length) file ≡ rest =
    sym (drop-drop head_length at file) ∙ ap (drop head_length) split
    ∙ drop_at (record_head r.side r.number n) rest head_length (length_head r.side r.number n) in
    let more : drop (at + head_length + tag_length * n) file ≡ bytes_of_records rs =
    sym (drop-drop (tag_length * n) (at + head_length) file) ∙ ap (drop (tag_length * n)) tags
    ∙ drop_at (tag_bytes r.tags) (bytes_of_records rs) (tag_length * n) (length-tag_bytes r.tags) in
    let long : length file - at ≡ head_length + length rest =
    sym (length-drop at file) ∙ ap length split ∙ rw (length-append, length_head r.side r.number n) in
    let size : length rest ≡ tag_length * n + length (bytes_of_records rs) = rw (length-append, length-tag_bytes) in
    let later = and_right (tags_fit r.tags) (records_fit rs) fit in
    let read = read_head file at r.number n rest (omega arith) r.side split in
    records_next file at r.side r.number n (at + head_length) (at + head_length + tag_length * n) read
    ∙ rw (
      tags_at_here file (at + head_length) r.tags (bytes_of_records rs) (and_left (tags_fit r.tags) (records_fit rs) fit) tags,
      records_at_bytes file (at + head_length + tag_length * n) rs later (omega arith) more,
    )

-- a file that was written is read record by record, to its end
pub records_bytes : (rs : List TagRecord) → records_fit rs ≡ true → records (bytes_of_records rs) ≡ rs
records_bytes rs fit = records_at_bytes (bytes_of_records rs) 0 rs fit (omega arith) refl

pub read_past : (rs : List TagRecord) → read_at (bytes_of_records rs) (total_length rs) ≡ NoMore
read_past rs = read_end (bytes_of_records rs) (total_length rs) (sym (length-bytes_of_records rs))
