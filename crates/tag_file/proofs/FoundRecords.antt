-- A record of a file by its place: after the records before it, the reader gives it. What a file of bytes bounds: numbers, tags and the
-- length of all records.
use mathlib.Core.Path.{◌≡◌, refl, sym, ap, subst, ◌∙◌}
use mathlib.Core.List.{List, [], ◌∷◌, ◌++◌}
use Prim.Native.Nat.{ℕ, suc, ◌+◌, ◌*◌, ◌<◌, ◌≤◌}
use native.Mathlib.Nat.{suc-mul}
use native.Mathlib.Omega.{arith}
use lib.ListN.{length, get_or}
use Rattle.lists.specs.Lists.{sum}
use Rattle.sets.specs.Limits.{max_set_length, half_words}
use Rattle.tag_file.specs.Format.{record_length}
use Rattle.tag_file.specs.Reading.{read_at, tags_at}
use Rattle.tag_file.specs.Records.{TagRecord, total_length, records_at, records}
use Rattle.tag_file.specs.declared.ReadAnswer.{ReadAnswer}
use Rattle.tag_file.specs.declared.ReadAnswer.TheVariants.{Record, NoMore, Refused}
use Rattle.tag_file.proofs.RecordLaws.{length-tags_at, read_length, read_number, read_count}
use Rattle.tag_file.proofs.RecordLaws.{records_next, records_end, records_refused}

-- what the reader gives where a record is: its tags, and the records after it
pub record ReadFound (file : List ℕ) (at : ℕ) (r : TagRecord) (after : List TagRecord) : Type 0 where
  pub count : ℕ
  pub place : ℕ
  pub next : ℕ
  pub read : read_at file at ≡ Record r.side r.number count place next
  pub tags : r.tags ≡ tags_at count file place
  pub rest : records_at file next ≡ after

heads_same : {r s : TagRecord} {rs ss : List TagRecord} → ◌≡◌ {A = List TagRecord} (r ∷ rs) (s ∷ ss) → r ≡ s
heads_same e = cc

tails_same : {r s : TagRecord} {rs ss : List TagRecord} → ◌≡◌ {A = List TagRecord} (r ∷ rs) (s ∷ ss) → rs ≡ ss
tails_same e = cc

module _ (file : List ℕ) where
  -- the first of the records from a place on
  first_found : (at : ℕ) (r : TagRecord) (after : List TagRecord) → records_at file at ≡ r ∷ after → ReadFound file at r after
  first_found at r after e = by_answer (read_at file at) refl
    where
      never : {A : Type 0} → ◌≡◌ {A = List TagRecord} [] (r ∷ after) → A
      never z = let y : ◌≡◌ {A = ℕ} 0 1 = cc in absurd (omega arith)

      by_answer : (a : ReadAnswer) → read_at file at ≡ a → ReadFound file at r after
      by_answer (Record s n c p next) told =
          let both = sym (records_next file at s n c p next told) ∙ e in
          let same = heads_same both in
          record {
            count = c;
            place = p;
            next = next;
            read = told ∙ ap (λ (q : TagRecord). Record q.side q.number c p next) same;
            tags = sym (ap (λ (q : TagRecord). q.tags) same);
            rest = tails_same both;
          }
      by_answer NoMore told = never (sym (records_end file at told) ∙ e)
      by_answer (Refused why) told = never (sym (records_refused file at why told) ∙ e)

  -- the place after the first record
  next_place : {at : ℕ} {r : TagRecord} {after : List TagRecord} (f : ReadFound file at r after)
      → f.next ≡ at + record_length (length r.tags)
  next_place {at} {r} {after} f =
      omega (arith, read_length file at f.read, ap length f.tags, length-tags_at f.count file f.place)

  found_from : (at : ℕ) (before : List TagRecord) (r : TagRecord) (after : List TagRecord) → records_at file at ≡ before ++ (r ∷ after)
      → ReadFound file (at + total_length before) r after
  unfolding sum
  found_from at [] r after e =
      let here : at + 0 ≡ at = omega arith in
      subst (λ (k : ℕ). ReadFound file k r after) (sym here) (first_found at r after e)
  found_from at (b ∷ before) r after e =
      let f = first_found at b (before ++ (r ∷ after)) e in
      let there : f.next + total_length before ≡ at + (record_length (length b.tags) + total_length before) =
      omega (arith, next_place f) in
      subst (λ (k : ℕ). ReadFound file k r after) there (found_from f.next before r after f.rest)

  pub read_found : (before : List TagRecord) (r : TagRecord) (after : List TagRecord) → records file ≡ before ++ (r ∷ after)
      → ReadFound file (total_length before) r after
  read_found before r after e =
      let here : 0 + total_length before ≡ total_length before = omega arith in
      subst (λ (k : ℕ). ReadFound file k r after) here (found_from 0 before r after e)

  module _ (byte : (i : ℕ) → get_or file i 0 < 256) (before : List TagRecord) (r : TagRecord) (after : List TagRecord)
      (e : records file ≡ before ++ (r ∷ after)) where
    pub found_number : r.number < half_words
    found_number = read_number file (total_length before) (read_found before r after e).read byte

    pub found_tags : length r.tags ≤ max_set_length
    found_tags =
        let f = read_found before r after e in
        omega (
          arith,
          read_count file (total_length before) f.read byte,
          ap length f.tags,
          length-tags_at f.count file f.place,
        )

-- the length of records each of which is short
pub total_length_bound : (rs : List TagRecord) (k : ℕ)
    → ((before : List TagRecord) (r : TagRecord) (after : List TagRecord) → rs ≡ before ++ (r ∷ after) → length r.tags ≤ k)
    → total_length rs ≤ length rs * record_length k
unfolding sum
total_length_bound [] k short = omega arith
total_length_bound (r ∷ rs) k short =
    let later = total_length_bound rs k (λ before s after e. short (r ∷ before) s after (ap (λ (l : List TagRecord). r ∷ l) e)) in
    add_one_more (record_length k) (length rs) (omega (arith, short [] r rs refl)) later
  where
    add_one_more : (m n : ℕ) {a b : ℕ} → a ≤ m → b ≤ n * m → a + b ≤ suc n * m
    add_one_more m n ha hb = omega (arith, suc-mul n m)
