-- Tags as numbers are in the order of unsigned bytes: of two lists of as many bytes the lesser number is that of the list which
-- is lexicographically below the other. Document 01, "Tag file": "the rising order of distinct tags as unsigned bytes".
use mathlib.Core.Path.{◌≡◌, sym, ap, ◌∙◌}
use Prim.Native.Nat.{ℕ, suc, ◌+◌, ◌*◌, ◌<◌, ◌≤◌}
use mathlib.Core.List.{List, [], ◌∷◌}
use mathlib.Core.Bool.{Bool, true, false, ◌&&◌, ◌||◌}
use native.Mathlib.Omega.{arith}
use borrow.Author.Tests.{lt-ltb, le-ltb, eq-eqb, ne_eqb}
use lib.Dec.{eqb, ltb}
use lib.ListN.{length, get_or, take, drop, length-take, length-drop}
use lib.Seq.{get_or-take, get_or-drop}
use Rattle.lists.specs.Lists.{rising}
use Rattle.lists.proofs.Rising.{rising_below}
use Rattle.tag_file.specs.Format.{tag_length, value_from, value, tag_at, tag_bytes}
use Rattle.tag_file.proofs.ItemCount.{length-tag_bytes}
use Rattle.tag_file.proofs.Tables.{three_ways}
use Rattle.tag_round_trip.proofs.Values.{tags_fit, tag_at_table, tag_bytes_low}

-- the lexicographic order: the first bytes that differ decide, and a list is above its own beginnings
unfoldable pub bytes_below : List ℕ → List ℕ → Bool
bytes_below [] [] = false
bytes_below [] (y ∷ ys) = true
bytes_below (x ∷ xs) [] = false
bytes_below (x ∷ xs) (y ∷ ys) = ltb x y || (eqb x y && bytes_below xs ys)

-- the bytes of the tag of item i in a table
abbrev pub tag_in : List ℕ → ℕ → List ℕ
tag_in table i = take tag_length (drop (tag_length * i) table)

-- the numbers of a list are bytes
abbrev pub AreBytes : List ℕ → Type 0
AreBytes bs = (i : ℕ) → i < length bs → get_or bs i 0 < 256

next_bytes : (b : ℕ) (bs : List ℕ) → AreBytes (b ∷ bs) → AreBytes bs
next_bytes b bs low i h = low (suc i) (omega arith)

-- a lesser number before bytes stays less, whatever as many bytes follow
value_less : (v w : ℕ) (a b : List ℕ) → length a ≡ length b → AreBytes a → v < w → value_from v a < value_from w b
unfolding value_from
value_less v w [] [] e low less = less
value_less v w [] (y ∷ ys) e low less = absurd (omega arith)
value_less v w (x ∷ xs) [] e low less = absurd (omega arith)
value_less v w (x ∷ xs) (y ∷ ys) e low less =
    let byte : x < 256 = low 0 (omega arith) in
    value_less (v * 256 + x) (w * 256 + y) xs ys (omega arith) (next_bytes x xs low) (omega arith)

not_below : (a b : ℕ) → b < a → ltb a b ≡ false
not_below a b more = le-ltb a b (omega arith)

value_from_order : (v : ℕ) (a b : List ℕ) → length a ≡ length b → AreBytes a → AreBytes b
    → ltb (value_from v a) (value_from v b) ≡ bytes_below a b
unfolding value_from bytes_below
value_from_order v [] [] e low-a low-b = le-ltb v v (omega arith)
value_from_order v [] (y ∷ ys) e low-a low-b = absurd (omega arith)
value_from_order v (x ∷ xs) [] e low-a low-b = absurd (omega arith)
value_from_order v (x ∷ xs) (y ∷ ys) e low-a low-b =
    first (value_from_order (v * 256 + x) xs ys (omega arith) (next_bytes x xs low-a) (next_bytes y ys low-b))
  where
    first : ltb (value_from (v * 256 + x) xs) (value_from (v * 256 + x) ys) ≡ bytes_below xs ys
        → ltb (value_from (v * 256 + x) xs) (value_from (v * 256 + y) ys) ≡ (ltb x y || (eqb x y && bytes_below xs ys))
    first later =
        three_ways x y
        (λ less.
        rw (lt-ltb x y less)
        (lt-ltb _ _ (value_less (v * 256 + x) (v * 256 + y) xs ys (omega arith) (next_bytes x xs low-a) (omega arith))))
        (λ same.
        rw (le-ltb x y (omega arith), eq-eqb x y same)
        (ap (λ (k : ℕ). ltb (value_from (v * 256 + x) xs) (value_from (v * 256 + k) ys)) (sym same) ∙ later))
        (λ more.
        rw (le-ltb x y (omega arith), ne_eqb x y (λ s. omega arith))
        (not_below _ _
        (value_less (v * 256 + y) (v * 256 + x) ys xs (omega arith) (next_bytes y ys low-b) (omega arith))))

-- the order of numbers is the order of their bytes
pub value_order : (a b : List ℕ) → length a ≡ length b → AreBytes a → AreBytes b → ltb (value a) (value b) ≡ bytes_below a b
value_order a b e low-a low-b = value_from_order 0 a b e low-a low-b

-- the same of two tags that stand whole in lists of bytes
module _ (bytes : List ℕ) (place : ℕ) (whole : place + tag_length ≤ length bytes) (low : AreBytes bytes) where
  length_tag : length (take tag_length (drop place bytes)) ≡ tag_length
  length_tag = simp (length-take, length-drop) (omega arith)

  tag_low : AreBytes (take tag_length (drop place bytes))
  tag_low i h =
      let n = length_tag in
      rw (get_or-take tag_length (drop place bytes) i 0 (omega arith), get_or-drop) (low (place + i) (omega arith))

pub tag_order : (a b : List ℕ) (p q : ℕ) → p + tag_length ≤ length a → q + tag_length ≤ length b → AreBytes a → AreBytes b
    → ltb (tag_at a p) (tag_at b q) ≡ bytes_below (take tag_length (drop p a)) (take tag_length (drop q b))
tag_order a b p q whole-a whole-b low-a low-b =
    value_order (take tag_length (drop p a)) (take tag_length (drop q b))
    (length_tag a p whole-a low-a ∙ sym (length_tag b q whole-b low-b)) (tag_low a p whole-a low-a) (tag_low b q whole-b low-b)

-- the tags of a rising table, written one after the other, rise as bytes
pub table_order : (table : List ℕ) → rising table ≡ true → tags_fit table ≡ true → (i j : ℕ) → i < j → j < length table
    → bytes_below (tag_in (tag_bytes table) i) (tag_in (tag_bytes table) j) ≡ true
table_order table rises fit i j less within =
    let bytes = tag_bytes table in
    let size = length-tag_bytes table in
    sym (tag_order bytes bytes (tag_length * i) (tag_length * j) (omega arith) (omega arith)
    (λ k h. tag_bytes_low table k) (λ k h. tag_bytes_low table k))
    ∙ rw (tag_at_table table i fit (omega arith), tag_at_table table j fit within)
    (lt-ltb (get_or table i 0) (get_or table j 0) (rising_below table rises i j less within))
