-- The records of a file: what a whole record that was read tells, that fuel enough gives the same records, and the walk's
-- step and end. Tags one after the other: their number, and one more.
use mathlib.Core.Path.{◌≡◌, refl, ap, subst, ◌∙◌}
use mathlib.Core.List.{List, [], ◌∷◌, ◌++◌}
use mathlib.Core.Bool.{Bool, true, false, cond}
use Prim.Native.Nat.{ℕ, zero, suc, ◌+◌, ◌-◌, ◌<◌, ◌≤◌}
use native.Mathlib.Nat.{add-zero, not-suc-le-zero, le_of_suc-le-suc}
use native.Mathlib.Omega.{arith}
use borrow.Author.Tests.{eq-eqb, leb-true}
use lib.Dec.{leb, eqb}
use lib.ListN.{length, get_or}
use Rattle.lists.specs.Lists.{memb, sum}
use Rattle.lists.proofs.Bools.{and_right, or_left, or_right}
use Rattle.lists.proofs.Summing.{sum_append}
use Rattle.sets.specs.Limits.{max_set_length, half_words}
use Rattle.sets.specs.declared.Side.{Side}
use Rattle.sets.specs.declared.Side.TheVariants.{Left, Right}
use Rattle.sets.specs.declared.Refusal.{Refusal}
use Rattle.sets.specs.declared.Refusal.TheVariants.{Malformed}
use Rattle.tag_file.specs.Format.{tag_length, head_length, record_length, tag_at}
use Rattle.tag_file.specs.Reading.{marked, number_at, count_at, past_tags, whole_at, record_at, read_at, tags_at}
use Rattle.tag_file.specs.Records.{TagRecord, total_length, onward, records_from, records_at, records, same_side}
use Rattle.tag_file.specs.declared.ReadAnswer.{ReadAnswer}
use Rattle.tag_file.specs.declared.ReadAnswer.TheVariants.{Record, NoMore, Refused}

pub same_side_lem : (a b : Side) → same_side a b ≡ true → a ≡ b
same_side_lem Left Left e = refl
same_side_lem Left Right e = let z : ◌≡◌ {A = ℕ} 0 1 = cc in absurd (omega arith)
same_side_lem Right Left e = let z : ◌≡◌ {A = ℕ} 0 1 = cc in absurd (omega arith)
same_side_lem Right Right e = refl

-- ---- tags one after the other

pub length-tags_at : (n : ℕ) (file : List ℕ) (at : ℕ) → length (tags_at n file at) ≡ n
unfolding tags_at
length-tags_at zero file at = refl
length-tags_at (suc n) file at = ap suc (length-tags_at n file (at + tag_length))

pub tags_at_last : (n : ℕ) (file : List ℕ) (at : ℕ)
    → tags_at (suc n) file at ≡ tags_at n file at ++ (tag_at file (past_tags at n) ∷ [])
unfolding tags_at
tags_at_last zero file at = let e : at ≡ past_tags at 0 = omega arith in ap (λ (k : ℕ). tag_at file k ∷ []) e
tags_at_last (suc n) file at =
    let e : past_tags (at + tag_length) n ≡ past_tags at (suc n) = omega arith in
    ap (λ (l : List ℕ). tag_at file at ∷ l)
    (tags_at_last n file (at + tag_length) ∙ ap (λ (k : ℕ). tags_at n file (at + tag_length) ++ (tag_at file k ∷ [])) e)

-- a tag of a record is among its tags
pub memb-tags_at : (n : ℕ) (file : List ℕ) (at k : ℕ) → k < n → memb (tag_at file (past_tags at k)) (tags_at n file at) ≡ true
unfolding tags_at memb
memb-tags_at zero file at k h = absurd (not-suc-le-zero h)
memb-tags_at (suc n) file at zero h =
    let e : past_tags at 0 ≡ at = omega arith in
    or_left (eqb (tag_at file (past_tags at 0)) (tag_at file at)) (memb (tag_at file (past_tags at 0)) (tags_at n file (at + tag_length)))
    (eq-eqb (tag_at file (past_tags at 0)) (tag_at file at) (ap (tag_at file) e))
memb-tags_at (suc n) file at (suc k) h =
    let rest = tags_at n file (at + tag_length) in
    let e : past_tags (at + tag_length) k ≡ past_tags at (suc k) = omega arith in
    or_right (eqb (tag_at file (past_tags at (suc k))) (tag_at file at)) (memb (tag_at file (past_tags at (suc k))) rest)
    (subst (λ (m : ℕ). memb (tag_at file m) rest ≡ true) e (memb-tags_at n file (at + tag_length) k (le_of_suc-le-suc h)))

-- ---- a whole record that was read

pub record Whole (file : List ℕ) (at n c p next : ℕ) : Type 0 where
  pub number : n ≡ number_at file at
  pub count : c ≡ count_at file at
  pub place : p ≡ at + head_length
  pub past : next ≡ past_tags p c
  pub within : next ≤ length file

module _ (file : List ℕ) (at : ℕ) (s : Side) (n c p next : ℕ) where
  abbrev first : ℕ
  first = at + head_length

  abbrev end : ℕ
  end = past_tags first (count_at file at)

  whole_found : (side : Side) → whole_at file at ≡ true
      → Record side (number_at file at) (count_at file at) first end ≡ Record s n c p next → Whole file at n c p next
  whole_found side t e =
      let room = leb-true end (length file) (and_right (leb first (length file)) (leb end (length file)) t) in
      let number : n ≡ number_at file at = cc in
      let count : c ≡ count_at file at = cc in
      let place : p ≡ first = cc in
      let past : next ≡ end = cc in
      record { number = number; count = count; place = place; past = omega arith; within = omega arith }

  refused_not : (why : Refusal) → Refused why ≡ Record s n c p next → Whole file at n c p next
  refused_not why e = let z : ◌≡◌ {A = ℕ} 0 1 = cc in absurd (omega arith)

  no_more_not : NoMore ≡ Record s n c p next → Whole file at n c p next
  no_more_not e = let z : ◌≡◌ {A = ℕ} 0 1 = cc in absurd (omega arith)

  whole_of : (side : Side) → record_at side file at ≡ Record s n c p next → Whole file at n c p next
  whole_of side e = pick (whole_at file at) refl e
    where
      pick : (b : Bool) → whole_at file at ≡ b
          → cond b (Record side (number_at file at) (count_at file at) first end) (Refused (Malformed at))
          ≡ Record s n c p next
          → Whole file at n c p next
      pick true t e = whole_found side t e
      pick false t e = refused_not (Malformed at) e

  pub read_whole : read_at file at ≡ Record s n c p next → Whole file at n c p next
  unfolding read_at
  read_whole e = at_end (eqb at (length file)) e
    where
      right : (b : Bool) → cond b (record_at Right file at) (Refused (Malformed at)) ≡ Record s n c p next
          → Whole file at n c p next
      right true e = whole_of Right e
      right false e = refused_not (Malformed at) e

      left : (b : Bool)
          → cond b (record_at Left file at) (cond (marked Right file at) (record_at Right file at) (Refused (Malformed at)))
          ≡ Record s n c p next
          → Whole file at n c p next
      left true e = whole_of Left e
      left false e = right (marked Right file at) e

      at_end : (b : Bool)
          → cond b NoMore
          (cond (marked Left file at) (record_at Left file at)
          (cond (marked Right file at) (record_at Right file at) (Refused (Malformed at))))
          ≡ Record s n c p next
          → Whole file at n c p next
      at_end true e = no_more_not e
      at_end false e = left (marked Left file at) e

-- what is read of a whole record by place: it goes on, within the file, and a file of bytes has small numbers
module _ (file : List ℕ) (at : ℕ) {s : Side} {n c p next : ℕ} (e : read_at file at ≡ Record s n c p next) where
  pub read_past : next ≡ past_tags p c
  read_past = (read_whole file at s n c p next e).past

  pub read_within : next ≤ length file
  read_within = (read_whole file at s n c p next e).within

  pub read_length : next ≡ at + record_length c
  read_length =
      let w = read_whole file at s n c p next e in
      omega (arith, w.place, w.past)

  pub read_less : length file - next < length file - at
  read_less = omega (arith, read_length, read_within)

  module _ (byte : (i : ℕ) → get_or file i 0 < 256) where
    pub read_number : n < half_words
    read_number = omega (arith, (read_whole file at s n c p next e).number, byte (at + 2), byte (at + 3))

    pub read_count : c ≤ max_set_length
    read_count = omega (arith, (read_whole file at s n c p next e).count, byte (at + 4))

-- ---- the walk

-- with fuel for every byte that is left, the records are the same
records_fuel : (f g : ℕ) (file : List ℕ) (at : ℕ) → length file ≤ at + f → length file ≤ at + g
    → records_from f file at ≡ records_from g file at
unfolding records_from
records_fuel zero zero file at hf hg = refl
records_fuel zero (suc g) file at hf hg = none (read_at file at) refl
  where
    none : (a : ReadAnswer) → read_at file at ≡ a → [] ≡ onward a file (λ next. records_from g file next)
    none (Record s n c p next) e =
        let w = read_whole file at s n c p next e in
        absurd (omega (arith, w.place, w.past, w.within))
    none NoMore e = refl
    none (Refused why) e = refl
records_fuel (suc f) zero file at hf hg = none (read_at file at) refl
  where
    none : (a : ReadAnswer) → read_at file at ≡ a → onward a file (λ next. records_from f file next) ≡ []
    none (Record s n c p next) e =
        let w = read_whole file at s n c p next e in
        absurd (omega (arith, w.place, w.past, w.within))
    none NoMore e = refl
    none (Refused why) e = refl
records_fuel (suc f) (suc g) file at hf hg = both (λ next. records_fuel f g file next) (read_at file at) refl
  where
    both : ((next : ℕ) → length file ≤ next + f → length file ≤ next + g → records_from f file next ≡ records_from g file next)
        → (a : ReadAnswer) → read_at file at ≡ a
        → onward a file (λ next. records_from f file next) ≡ onward a file (λ next. records_from g file next)
    both again (Record s n c p next) e =
        let w = read_whole file at s n c p next e in
        ap (λ (l : List TagRecord). record { side = s; number = n; tags = tags_at c file p } ∷ l)
        (again next (omega (arith, w.place, w.past, w.within)) (omega (arith, w.place, w.past, w.within)))
    both again NoMore e = refl
    both again (Refused why) e = refl

module _ (file : List ℕ) (at : ℕ) where
  open_walk : records_at file at ≡ onward (read_at file at) file (λ next. records_at file next)
  unfolding records_from
  open_walk = records_fuel (length file) (suc (length file)) file at (omega arith) (omega arith)

  pub records_next : (s : Side) (n c p next : ℕ) → read_at file at ≡ Record s n c p next
      → records_at file at ≡ record { side = s; number = n; tags = tags_at c file p } ∷ records_at file next
  records_next s n c p next e = open_walk ∙ rw e

  pub records_end : read_at file at ≡ NoMore → records_at file at ≡ []
  records_end e = open_walk ∙ rw e

  pub records_refused : (why : Refusal) → read_at file at ≡ Refused why → records_at file at ≡ []
  records_refused why e = open_walk ∙ rw e

-- the place after one more record
pub total_length_last : (rs : List TagRecord) (r : TagRecord)
    → total_length (rs ++ (r ∷ [])) ≡ total_length rs + record_length (length r.tags)
unfolding sum
total_length_last rs r =
    sum_append (λ (q : TagRecord). record_length (length q.tags)) rs (r ∷ [])
    ∙ ap (λ (k : ℕ). total_length rs + k) (add-zero (record_length (length r.tags)))

-- the records of a file lie within it
records_inside : (fuel : ℕ) (file : List ℕ) (at : ℕ) → at ≤ length file → at + total_length (records_from fuel file at) ≤ length file
unfolding records_from sum
records_inside zero file at h = omega arith
records_inside (suc fuel) file at h = whole (λ next. records_inside fuel file next) (read_at file at) refl
  where
    whole : ((next : ℕ) → next ≤ length file → next + total_length (records_from fuel file next) ≤ length file)
        → (a : ReadAnswer) → read_at file at ≡ a
        → at + total_length (onward a file (λ next. records_from fuel file next)) ≤ length file
    whole again (Record s n c p next) e =
        omega (arith, again next (read_within file at e), read_length file at e, length-tags_at c file p)
    whole again NoMore e = omega arith
    whole again (Refused why) e = omega arith

pub total_length_inside : (file : List ℕ) → total_length (records file) ≤ length file
total_length_inside file = omega (arith, records_inside (length file) file 0 (omega arith))
