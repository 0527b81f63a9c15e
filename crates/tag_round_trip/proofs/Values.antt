-- Numbers as bytes and back: a number below 256^n is its n bytes, and bytes give such a number. A tag in a table of tags.
use mathlib.Core.Path.{◌≡◌, refl, sym, ap, ◌∙◌}
use Prim.Native.Nat.{ℕ, zero, suc, ◌+◌, ◌*◌, ◌/◌, ◌%◌, ◌^◌, ◌≤◌, ◌<◌}
use mathlib.Core.List.{List, [], ◌∷◌, ◌++◌}
use mathlib.Core.Bool.{Bool, true}
use native.Mathlib.Nat.{pow-suc, pow-succ', mul_assoc, mul-le-mul_right, pow-le-pow_right, div-lt_iff_lt-mul}
use native.Mathlib.Omega.{arith}
use borrow.Author.Tests.{ltb-true}
use lib.Dec.{ltb}
use lib.ListN.{length, take, drop, get_or, length-take}
use lib.Seq.{take_at, drop_at, drop-drop, get_or-take, get_or-drop}
use Rattle.lists.specs.Lists.{all}
use Rattle.lists.proofs.Bools.{and_left, and_right}
use Rattle.tag_file.specs.Format.{value_from, value, bytes_of, tag_length, tag_at, tag_bytes}
use Rattle.tag_file.proofs.ItemCount.{length-bytes_of}

value_from_last : (v : ℕ) (bs : List ℕ) (b : ℕ) → value_from v (bs ++ (b ∷ [])) ≡ value_from v bs * 256 + b
unfolding value_from
value_from_last v [] b = refl
value_from_last v (x ∷ xs) b = value_from_last (v * 256 + x) xs b

value-bytes_of : (n v : ℕ) → v < 256 ^ n → value (bytes_of n v) ≡ v
unfolding value_from bytes_of
value-bytes_of zero v h = let none : v < 1 = h in omega arith
value-bytes_of (suc n) v h =
    let less : v / 256 < 256 ^ n = (div-lt_iff_lt-mul {k = 256} {x = v} {y = 256 ^ n} (omega arith)).1 (rw pow-suc at h) in
    value_from_last 0 (bytes_of n (v / 256)) (v % 256) ∙ rw (value-bytes_of n (v / 256) less) (omega arith)

value_from_bound : (v : ℕ) (bs : List ℕ) → ((i : ℕ) → i < length bs → get_or bs i 0 < 256) → value_from v bs < suc v * 256 ^ length bs
unfolding value_from
value_from_bound v [] h = omega arith
value_from_bound v (b ∷ bs) h =
    let low : b < 256 = h 0 (omega arith) in
    let rest = value_from_bound (v * 256 + b) bs (λ i g. h (suc i) (omega arith)) in
    let more : suc (v * 256 + b) * 256 ^ length bs ≤ suc v * 256 * 256 ^ length bs =
    mul-le-mul_right (256 ^ length bs) (omega arith) in
    let whole : suc v * 256 * 256 ^ length bs ≡ suc v * 256 ^ suc (length bs) = rw (pow-succ', mul_assoc) in
    omega arith

-- every tag of a file of bytes is a number of 12 bytes
pub tag_at_bound : (bytes : List ℕ) (place : ℕ) → ((i : ℕ) → get_or bytes i 0 < 256) → tag_at bytes place < 256 ^ tag_length
tag_at_bound bytes place low =
    let run = take tag_length (drop place bytes) in
    let n : length run ≤ tag_length = rw length-take (omega arith) in
    let each : (i : ℕ) → i < length run → get_or run i 0 < 256 =
    λ i g. rw (get_or-take tag_length (drop place bytes) i 0 (omega arith), get_or-drop) (low (place + i)) in
    let own = value_from_bound 0 run each in
    let most : 256 ^ length run ≤ 256 ^ tag_length = pow-le-pow_right (omega arith) n in
    omega arith

-- where a tag's bytes begin at a place, the tag there is that tag, and what follows begins 12 bytes on
module _ (bytes : List ℕ) (at tag : ℕ) (rest : List ℕ) (here : drop at bytes ≡ bytes_of tag_length tag ++ rest) where
  pub tag_at_here : tag < 256 ^ tag_length → tag_at bytes at ≡ tag
  tag_at_here h =
      ap value (ap (take tag_length) here ∙ take_at (bytes_of tag_length tag) rest tag_length (length-bytes_of tag_length tag))
      ∙ value-bytes_of tag_length tag h

  pub drop_tag : drop (at + tag_length) bytes ≡ rest
  drop_tag =
      sym (drop-drop tag_length at bytes) ∙ ap (drop tag_length) here
      ∙ drop_at (bytes_of tag_length tag) rest tag_length (length-bytes_of tag_length tag)

-- whether each tag is a number of 12 bytes
abbrev pub tags_fit : List ℕ → Bool
tags_fit tags = all (λ t. ltb t (256 ^ tag_length)) tags

pub first_fits : (t : ℕ) (ts : List ℕ) → tags_fit (t ∷ ts) ≡ true → t < 256 ^ tag_length
unfolding all
first_fits t ts fit = ltb-true _ _ (and_left (ltb t (256 ^ tag_length)) (tags_fit ts) fit)

pub rest-fits : (t : ℕ) (ts : List ℕ) → tags_fit (t ∷ ts) ≡ true → tags_fit ts ≡ true
unfolding all
rest-fits t ts fit = and_right (ltb t (256 ^ tag_length)) (tags_fit ts) fit

-- the tag of an item in a table written as bytes
pub tag_at_table : (table : List ℕ) (i : ℕ) → tags_fit table ≡ true → i < length table
    → tag_at (tag_bytes table) (tag_length * i) ≡ get_or table i 0
unfolding tag_bytes
tag_at_table [] i fit h = absurd (omega arith)
tag_at_table (t ∷ ts) zero fit h =
    tag_at_here (bytes_of tag_length t ++ tag_bytes ts) 0 t (tag_bytes ts) refl (first_fits t ts fit)
tag_at_table (t ∷ ts) (suc i) fit h =
    let bytes = bytes_of tag_length t ++ tag_bytes ts in
    let next : tag_length * suc i ≡ tag_length + tag_length * i = omega arith in
    let past : drop tag_length bytes ≡ tag_bytes ts =
    drop_at (bytes_of tag_length t) (tag_bytes ts) tag_length (length-bytes_of tag_length t) in
    let e : drop (tag_length * suc i) bytes ≡ drop (tag_length * i) (tag_bytes ts) =
    ap (λ (k : ℕ). drop k bytes) next ∙ sym (drop-drop (tag_length * i) tag_length bytes) ∙ ap (drop (tag_length * i)) past in
    ap (λ (l : List ℕ). value (take tag_length l)) e ∙ tag_at_table ts i (rest-fits t ts fit) (omega arith)

-- the bytes of numbers are bytes
bytes_append : (a b : List ℕ) → ((i : ℕ) → get_or a i 0 < 256) → ((i : ℕ) → get_or b i 0 < 256) → (i : ℕ) → get_or (a ++ b) i 0 < 256
bytes_append [] b ha hb i = hb i
bytes_append (x ∷ xs) b ha hb zero = ha 0
bytes_append (x ∷ xs) b ha hb (suc i) = bytes_append xs b (λ j. ha (suc j)) hb i

bytes_of_low : (n v : ℕ) → (i : ℕ) → get_or (bytes_of n v) i 0 < 256
unfolding bytes_of
bytes_of_low zero v i = omega arith
bytes_of_low (suc n) v i = bytes_append (bytes_of n (v / 256)) (v % 256 ∷ []) (bytes_of_low n (v / 256)) last i
  where
    last : (i : ℕ) → get_or (v % 256 ∷ []) i 0 < 256
    last zero = omega arith
    last (suc i) = omega arith

pub tag_bytes_low : (tags : List ℕ) → (i : ℕ) → get_or (tag_bytes tags) i 0 < 256
unfolding tag_bytes
tag_bytes_low [] i = omega arith
tag_bytes_low (t ∷ ts) i = bytes_append (bytes_of tag_length t) (tag_bytes ts) (bytes_of_low tag_length t) (tag_bytes_low ts) i
