-- Bytes as a number and a number as bytes: the two undo each other. A tag's bytes, four by four.
use mathlib.Core.Path.{◌≡◌, ap, ◌∙◌}
use Prim.Native.Nat.{ℕ, suc, ◌+◌, ◌*◌, ◌≤◌, ◌<◌}
use mathlib.Core.List.{List, [], ◌∷◌, ◌++◌, append_assoc, append-nil}
use native.Mathlib.Nat.{add-zero, add_assoc}
use native.Mathlib.Numerals.{add-one}
use native.Mathlib.Omega.{arith}
use lib.ListN.{length, take, drop, get_or, length-take, length-drop}
use lib.Seq.{get_or-take, get_or-drop, drop-cons, drop-drop, take-add}
use lib.Arith.{digits_div, digits_mod}
use Rattle.tag_file.specs.Format.{value_from, bytes_of, tag_length, tag_at}

-- the bytes of a number that is v followed by bytes
bytes_of-value_from : (k v : ℕ) (bs : List ℕ) → ((i : ℕ) → i < length bs → get_or bs i 0 < 256)
    → bytes_of (k + length bs) (value_from v bs) ≡ bytes_of k v ++ bs
unfolding bytes_of value_from
bytes_of-value_from k v [] h = rw (add-zero, append-nil)
bytes_of-value_from k v (b ∷ bs) h =
    let e : k + suc (length bs) ≡ suc k + length bs = omega arith in
    let low : b < 256 = h 0 (omega arith) in
    let again : bytes_of (suc k + length bs) (value_from (v * 256 + b) bs) ≡ bytes_of (suc k) (v * 256 + b) ++ bs =
    bytes_of-value_from (suc k) (v * 256 + b) bs (λ i g. h (suc i) (omega arith)) in
    rw e (again ∙ rw (digits_div v low, digits_mod v low, append_assoc))

-- a tag's bytes are those of its number
pub bytes_of-tag_at : (bytes : List ℕ) (place : ℕ) → place + tag_length ≤ length bytes
    → ((i : ℕ) → get_or bytes i 0 < 256) → bytes_of tag_length (tag_at bytes place) ≡ take tag_length (drop place bytes)
unfolding bytes_of
bytes_of-tag_at bytes place h low =
    let n : length (take tag_length (drop place bytes)) ≡ tag_length =
    simp (length-take, length-drop) (omega arith) in
    let each : (i : ℕ) → i < length (take tag_length (drop place bytes)) → get_or (take tag_length (drop place bytes)) i 0 < 256 =
    λ i g. rw (get_or-take tag_length (drop place bytes) i 0 (omega arith), get_or-drop) (low (place + i)) in
    rw n at (bytes_of-value_from 0 0 (take tag_length (drop place bytes)) each)

drop_next : (l : List ℕ) (i : ℕ) → i < length l → drop i l ≡ get_or l i 0 ∷ drop (i + 1) l
drop_next l i h = drop-cons l i 0 h ∙ rw (add-one i)

-- four bytes from a place on
pub four_bytes : (l : List ℕ) (i : ℕ) → i + 4 ≤ length l
    → take 4 (drop i l) ≡ get_or l i 0 ∷ get_or l (i + 1) 0 ∷ get_or l (i + 2) 0 ∷ get_or l (i + 3) 0 ∷ []
four_bytes l i h =
    let two : i + 1 + 1 ≡ i + 2 = omega arith in
    let three : i + 2 + 1 ≡ i + 3 = omega arith in
    rw (
      drop_next l i (omega arith),
      drop_next l (i + 1) (omega arith),
      two,
      drop_next l (i + 2) (omega arith),
      three,
      drop_next l (i + 3) (omega arith),
    )

-- a tag's bytes, four by four
pub tag_bytes_lem : (l : List ℕ) (i : ℕ)
    → take tag_length (drop i l) ≡ take 4 (drop i l) ++ (take 4 (drop (i + 4) l) ++ take 4 (drop (i + 8) l))
tag_bytes_lem l i =
    take-add 4 8 (drop i l)
    ∙ ap (λ (m : List ℕ). take 4 (drop i l) ++ m)
    (ap (take 8) (drop-drop 4 i l) ∙ take-add 4 4 (drop (i + 4) l)
    ∙ ap (λ (m : List ℕ). take 4 (drop (i + 4) l) ++ take 4 m)
    (drop-drop 4 (i + 4) l ∙ ap (λ (k : ℕ). drop k l) (add_assoc i 4 4)))
