-- Reading at a place: the cases of `read_at` and `record_at`, each from the tests that lead to it.
use mathlib.Core.Path.{◌≡◌, refl, ap, ◌∙◌}
use mathlib.Core.List.{List, ◌∷◌}
use mathlib.Core.Bool.{Bool, true, false, cond, ◌&&◌}
use Prim.Native.Nat.{ℕ, suc, ◌+◌, ◌*◌, ◌-◌, ◌<◌, ◌≤◌}
use native.Mathlib.Numerals.{add-one}
use native.Mathlib.Omega.{arith}
use borrow.Author.Tests.{le-leb, lt-leb, eq-eqb, ne_eqb, eqb-true}
use lib.Dec.{eqb}
use lib.ListN.{length, get_or, drop}
use lib.Seq.{drop-cons}
use Rattle.lists.specs.Lists.{prefix}
use Rattle.sets.specs.declared.Side.{Side}
use Rattle.sets.specs.declared.Side.TheVariants.{Left, Right}
use Rattle.sets.specs.declared.Refusal.{Refusal}
use Rattle.sets.specs.declared.Refusal.TheVariants.{Malformed}
use Rattle.tag_file.specs.Format.{tag_length, head_length, mark}
use Rattle.tag_file.specs.Reading.{marked, number_at, count_at, past_tags, whole_at, record_at, read_at}
use Rattle.tag_file.specs.declared.ReadAnswer.TheVariants.{Record, NoMore, Refused}

cond_same : {A : Type 0} (b : Bool) (x : A) → cond b x x ≡ x
cond_same true x = refl
cond_same false x = refl

-- two bytes that are not these two, as one number
module _ (a b x y : ℕ) (x-byte : x < 256) (y-byte : y < 256) where
  bytes_same : x * 256 + y ≡ a * 256 + b → a < 256 → b < 256 → (eqb a x && (eqb b y && true)) ≡ true
  bytes_same e ha hb =
      let first : a ≡ x = omega arith in
      let second : b ≡ y = omega arith in
      rw (eq-eqb a x first, eq-eqb b y second)

  bytes_other : (x * 256 + y ≡ a * 256 + b → ⊥) → (eqb a x && (eqb b y && true)) ≡ false
  bytes_other ne = first (eqb a x) refl
    where
      second : a ≡ x → (t : Bool) → eqb b y ≡ t → (t && true) ≡ false
      second ea false e = refl
      second ea true e = let eb : b ≡ y = eqb-true b y e in absurd (ne (omega arith))

      first : (t : Bool) → eqb a x ≡ t → (t && (eqb b y && true)) ≡ false
      first false e = refl
      first true e = second (eqb-true a x e) (eqb b y) refl

module _ (file : List ℕ) (at : ℕ) where
  abbrev past : ℕ
  past = past_tags (at + head_length) (count_at file at)

  pub whole_record : (side : Side) → at + head_length ≤ length file → tag_length * count_at file at ≤ length file - (at + head_length)
      → record_at side file at ≡ Record side (number_at file at) (count_at file at) (at + head_length) past
  whole_record side head tags =
      rw (le-leb (at + head_length) (length file) head, le-leb past (length file) (omega arith))

  pub cut_record : (side : Side) → at + head_length ≤ length file → length file - (at + head_length) < tag_length * count_at file at
      → record_at side file at ≡ Refused (Malformed at)
  cut_record side head tags =
      rw (le-leb (at + head_length) (length file) head, lt-leb past (length file) (omega arith))

  short_record : (side : Side) → length file < at + head_length → record_at side file at ≡ Refused (Malformed at)
  short_record side short = rw (lt-leb (at + head_length) (length file) short)

  pub read_end : at ≡ length file → read_at file at ≡ NoMore
  unfolding read_at
  read_end e = rw (eq-eqb at (length file) e)

  pub read_short : (at ≡ length file → ⊥) → length file < at + head_length → read_at file at ≡ Refused (Malformed at)
  unfolding read_at
  read_short ne short =
      rw (
        ne_eqb at (length file) ne,
        short_record Left short,
        short_record Right short,
        cond_same (marked Right file at) (Refused (Malformed at)),
      ) (cond_same (marked Left file at) (Refused (Malformed at)))

  marked_bytes : (side : Side) → at + head_length ≤ length file
      → marked side file at ≡ prefix (mark side) (get_or file at 0 ∷ get_or file (at + 1) 0 ∷ drop (suc (at + 1)) file)
  marked_bytes side head =
      ap (prefix (mark side))
      (drop-cons file at 0 (omega arith)
      ∙ rw (← add-one at) (ap (λ (l : List ℕ). get_or file at 0 ∷ l) (drop-cons file (at + 1) 0 (omega arith))))

  module _ (head : at + head_length ≤ length file) (first : get_or file at 0 < 256) (second : get_or file (at + 1) 0 < 256) where
    pub read_left : get_or file at 0 * 256 + get_or file (at + 1) 0 ≡ 0x4B54 → read_at file at ≡ record_at Left file at
    unfolding read_at prefix
    read_left e =
        rw (
          ne_eqb at (length file) (λ q. omega arith),
          marked_bytes Left head,
          bytes_same 0x4B 0x54 (get_or file at 0) (get_or file (at + 1) 0) first second e (omega arith) (omega arith),
        )

    pub read_right : get_or file at 0 * 256 + get_or file (at + 1) 0 ≡ 0x534B → read_at file at ≡ record_at Right file at
    unfolding read_at prefix
    read_right e =
        rw (
          ne_eqb at (length file) (λ q. omega arith),
          marked_bytes Left head,
          bytes_other 0x4B 0x54 (get_or file at 0) (get_or file (at + 1) 0) first second (λ q. omega arith),
          marked_bytes Right head,
          bytes_same 0x53 0x4B (get_or file at 0) (get_or file (at + 1) 0) first second e (omega arith) (omega arith),
        )

    pub read_other : (get_or file at 0 * 256 + get_or file (at + 1) 0 ≡ 0x4B54 → ⊥)
        → (get_or file at 0 * 256 + get_or file (at + 1) 0 ≡ 0x534B → ⊥)
        → read_at file at ≡ Refused (Malformed at)
    unfolding read_at prefix
    read_other l r =
        rw (
          ne_eqb at (length file) (λ q. omega arith),
          marked_bytes Left head,
          bytes_other 0x4B 0x54 (get_or file at 0) (get_or file (at + 1) 0) first second l,
          marked_bytes Right head,
          bytes_other 0x53 0x4B (get_or file at 0) (get_or file (at + 1) 0) first second r,
        )

-- ---- the reader refuses with the place that it was asked for

module _ (file : List ℕ) (at : ℕ) (why : Refusal) where
  record_refused : (side : Side) → record_at side file at ≡ Refused why → why ≡ Malformed at
  record_refused side e = pick (whole_at file at) e
    where
      pick : (b : Bool) → cond b (Record side (number_at file at) (count_at file at) (at + head_length) (past file at))
          (Refused (Malformed at)) ≡ Refused why → why ≡ Malformed at
      pick true e = let z : ◌≡◌ {A = ℕ} 0 1 = cc in absurd (omega arith)
      pick false e = cc

  pub read_refused : read_at file at ≡ Refused why → why ≡ Malformed at
  unfolding read_at
  read_refused e = at_end (eqb at (length file)) e
    where
      right : (b : Bool) → cond b (record_at Right file at) (Refused (Malformed at)) ≡ Refused why → why ≡ Malformed at
      right true e = record_refused Right e
      right false e = cc

      left : (b : Bool)
          → cond b (record_at Left file at) (cond (marked Right file at) (record_at Right file at) (Refused (Malformed at)))
          ≡ Refused why
          → why ≡ Malformed at
      left true e = record_refused Left e
      left false e = right (marked Right file at) e

      at_end : (b : Bool)
          → cond b NoMore
          (cond (marked Left file at) (record_at Left file at)
          (cond (marked Right file at) (record_at Right file at) (Refused (Malformed at))))
          ≡ Refused why
          → why ≡ Malformed at
      at_end true e = let z : ◌≡◌ {A = ℕ} 0 1 = cc in absurd (omega arith)
      at_end false e = left (marked Left file at) e
