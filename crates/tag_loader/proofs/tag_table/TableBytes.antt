-- A number's bytes, a tag's bytes in two parts, and a table's tag by tag.
use mathlib.Core.Path.{◌≡◌, ap}
use mathlib.Core.List.{List, [], ◌++◌, append_assoc}
use Prim.Native.Nat.{ℕ, ◌+◌, ◌-◌, ◌*◌, ◌/◌, ◌%◌, ◌<◌, ◌≤◌}
use native.Mathlib.Numerals.{add-one}
use native.Mathlib.Omega.{arith}
use lib.ListN.{length, get_or, drop, drop_of_length-le}
use Rattle.std.proofs.Math.Nat.{div-div-eq-div-mul}
use lib.Seq.{drop-cons}
use borrow.Rule.Slice.PartMut.{put_mid}
use Rattle.std.specs.Int.{w32, w64, to_be_bytes}
use Rattle.std.proofs.lemmas.Grind.{common_steps}
use Rattle.std.proofs.lemmas.List.Edits.{sets-eq}
use Rattle.std.proofs.lemmas.Slice.{overwrites}
use Rattle.lists.specs.Writing.{Put}
use Rattle.sets.specs.Limits.{full_words}
use Rattle.tag_file.specs.Format.{tag_length, bytes_of, tag_bytes}

-- a number's bytes are those that the library writes
pub head_bytes : (n : ℕ) → to_be_bytes w64 n ≡ bytes_of 8 n
unfolding bytes_of
head_bytes n = simp div-div-eq-div-mul

pub tail_bytes : (n : ℕ) → to_be_bytes w32 n ≡ bytes_of 4 n
unfolding bytes_of
tail_bytes n = simp div-div-eq-div-mul

-- bytes copied to a place
pub put_part : (was bytes : List ℕ) (at k : ℕ) → length bytes ≡ k → at + k ≤ length was → Put was at bytes (at + k) (put_mid at (at + k - at) was bytes)
put_part was bytes at k long room =
    record { written = rw (sets-eq bytes was at (omega arith)) (grind (arith, common_steps, overwrites)); past = omega arith }

-- the bytes of a tag are those of its head and its tail
pub tag_parts : (head tail : ℕ) → tail < full_words → bytes_of tag_length (head * full_words + tail) ≡ bytes_of 8 head ++ bytes_of 4 tail
unfolding bytes_of
tag_parts head tail small =
    let v = head * full_words + tail in
    let high : v / 256 / 256 / 256 / 256 ≡ head = omega arith in
    let a : v / 256 / 256 / 256 % 256 ≡ tail / 256 / 256 / 256 % 256 = omega arith in
    let b : v / 256 / 256 % 256 ≡ tail / 256 / 256 % 256 = omega arith in
    let c : v / 256 % 256 ≡ tail / 256 % 256 = omega arith in
    let d : v % 256 ≡ tail % 256 = omega arith in
    rw (high, a, b, c, d) (simp append_assoc)

-- the tags that are left of a table, the first in front
pub table_next : (table : List ℕ) (i : ℕ) → i < length table
    → tag_bytes (drop i table) ≡ bytes_of tag_length (get_or table i 0) ++ tag_bytes (drop (i + 1) table)
unfolding tag_bytes
table_next table i h = rw (drop-cons table i 0 h, add-one i)

pub table_end : (table : List ℕ) (i : ℕ) → length table ≤ i → tag_bytes (drop i table) ≡ []
unfolding tag_bytes
table_end table i h = ap tag_bytes (drop_of_length-le table {i = i} h)
