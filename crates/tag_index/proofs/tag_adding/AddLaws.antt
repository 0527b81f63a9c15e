-- One more tag of a set: where it was taken into the index (`OneTaken`) and its id is seen among those of the set, what `Adding` says holds
-- of one tag more.
use mathlib.Core.Path.{◌≡◌, refl, sym, ap, subst, ◌∙◌}
use mathlib.Core.List.{List, [], ◌∷◌, ◌++◌, append-nil, append_assoc}
use mathlib.Core.Bool.{Bool, true, false, not, ◌||◌, or-false, or_comm}
use Prim.Native.Nat.{ℕ, ◌+◌, ◌<◌, ◌≤◌}
use native.Mathlib.Numerals.{add-one}
use native.Mathlib.Omega.{arith}
use borrow.Author.Tests.{eq-eqb, ne_eqb, eqb-true, ltb-true, ltb-false}
use lib.Dec.{eqb, ltb}
use lib.ListN.{length, get_or, replicate, length-replicate}
use Rattle.lists.specs.Lists.{one, memb}
use Rattle.lists.proofs.Bools.{true-false, by_test, refuted, same_test}
use Rattle.lists.proofs.Membership.{memb_place}
use Rattle.bit_sets.specs.BitSets.{member}
use Rattle.bit_sets.proofs.Members.{no_member}
use Rattle.tag_file.specs.Format.{tag_at}
use Rattle.tag_file.specs.Reading.{tags_at, past_tags}
use Rattle.tag_file.specs.Records.{insert, insert_all, collapse}
use Rattle.tag_file.proofs.Tables.{memb-insert, length-insert}
use Rattle.tag_file.proofs.Tables.{insert_all_append, insert_all_last, length-insert_all_bound, memb_last, collapse_last}
use Rattle.tag_file.proofs.RecordLaws.{length-tags_at, tags_at_last}
use Rattle.tag_index.specs.Index.{tag_of_id, table_of, Sorted, OneTaken}
use Rattle.tag_index.specs.declared.Found.{Found}
use Rattle.tag_index.proofs.Ids.{sorted_size, sorted_at, same_id}
use Rattle.tag_index.specs.tag_adding.Adding.{seen_words, Seen, Adding, AllAdded}
use Rattle.tag_index.specs.declared.TagIndex.{TagIndex}

-- ---- one more tag at the end of a list of tags

tags_at_next : (k : ℕ) (file : List ℕ) (start : ℕ)
    → tags_at (k + 1) file start ≡ tags_at k file start ++ (tag_at file (past_tags start k) ∷ [])
tags_at_next k file start = ap (λ (m : ℕ). tags_at m file start) (add-one k) ∙ tags_at_last k file start

-- ---- one more tag among those of a set

-- a set starts without tags: none is seen
pub adding_start : {index : TagIndex} {n : ℕ} → Sorted index n
    → Adding [] index n 0 (replicate seen_words 0)
unfolding insert_all memb
adding_start s =
    record {
      sorted = s;
      wide = length-replicate {A = ℕ} seen_words 0;
      marks = λ id h. no_member seen_words id;
      unmarked = λ id h. no_member seen_words id;
      held = λ y m. true-false m refl;
      counted = refl;
    }

-- the tag x was taken into the index, and its id is seen
module _ {done : List ℕ} {index : TagIndex} {tagCount distinct : ℕ} {seen : List ℕ} (a : Adding done index tagCount distinct seen)
    {x : ℕ} {found : Found} {now-index : TagIndex}
    (o : OneTaken x tagCount index found now-index) where
  abbrev next : List ℕ
  next = done ++ (x ∷ [])

  abbrev was : List ℕ
  was = table_of index tagCount

  -- the index has as many tags as before, or one more
  now_more : tagCount ≤ found.tag_count
  now_more =
      omega (arith, sorted_size o.sorted, ap length o.table, length-insert x was a.sorted.rises, sorted_size a.sorted)

  -- a new id has a tag that the index had not, and so the set has not
  new_absent : (j : ℕ) → tagCount ≤ j → j < found.tag_count → memb (tag_of_id now-index j) done ≡ false
  new_absent j low high =
      let y = tag_of_id now-index j in
      refuted (memb y done) (λ m.
      let q = memb_place y was (a.held y m) in
      let at_low : q.at < tagCount = omega (arith, q.below, sorted_size a.sorted) in
      let id-low = a.sorted.listed.small q.at at_low in
      let same : get_or index.ids q.at 0 ≡ j =
      same_id o.sorted (get_or index.ids q.at 0) j (omega (arith, id-low, now_more)) high
      (o.others (get_or index.ids q.at 0) id-low ∙ sym (sorted_at a.sorted q.at at_low) ∙ q.here) in
      omega (arith, id-low))

  -- what was seen before, by the ids of now
  was_marked : (j : ℕ) → j < found.tag_count → member seen j ≡ memb (tag_of_id now-index j) done
  was_marked j h =
      by_test (ltb j tagCount)
      (λ t. a.marks j (ltb-true j tagCount t) ∙ ap (λ (y : ℕ). memb y done) (sym (o.others j (ltb-true j tagCount t))))
      (λ f. a.unmarked j (ltb-false j tagCount f) ∙ sym (new_absent j (ltb-false j tagCount f) h))

  pub adding_step : {r : ℕ} {is : List ℕ} → Seen seen found.id r is
      → Adding next now-index found.tag_count (distinct + r) is
  adding_step {r} {is} s =
      record {
        sorted = o.sorted;
        wide = s.marked.size ∙ a.wide;
        marks = λ j g. s.marked.holds j ∙ rw (was_marked j g, this j g) (or_comm (eqb (tag_of_id now-index j) x) (memb (tag_of_id now-index j) done))
            ∙ sym (memb_last (tag_of_id now-index j) done x);
        unmarked = λ j g. s.marked.holds j ∙ rw (ne_eqb j found.id (λ e. omega (arith, o.within)), a.unmarked j (omega (arith, now_more)));
        held = held_next;
        counted = ap (λ (k : ℕ). distinct + k) (s.counted ∙ ap (λ (b : Bool). one (not b)) (was_marked found.id o.within ∙ ap (λ (y : ℕ). memb y done) o.is))
            ∙ ap (λ (m : ℕ). m + one (not (memb x done))) a.counted ∙ sym (collapse_last done x);
      }
    where
      this : (j : ℕ) → j < found.tag_count → eqb j found.id ≡ eqb (tag_of_id now-index j) x
      this j g =
          same_test (eqb j found.id) (eqb (tag_of_id now-index j) x)
          (λ t. eq-eqb (tag_of_id now-index j) x (ap (tag_of_id now-index) (eqb-true j found.id t) ∙ o.is))
          (λ t. eq-eqb j found.id
          (same_id o.sorted j found.id g o.within (eqb-true (tag_of_id now-index j) x t ∙ sym o.is)))

      held_next : (y : ℕ) → memb y next ≡ true → memb y (table_of now-index found.tag_count) ≡ true
      held_next y m = ap (memb y) o.table ∙ memb-insert y x (table_of index tagCount) ∙ here (eqb y x) refl
        where
          here : (b : Bool) → eqb y x ≡ b → (b || memb y (table_of index tagCount)) ≡ true
          here true t = refl
          here false f =
              a.held y (sym (or-false (memb y done)) ∙ ap (λ (b : Bool). memb y done || b) (sym f) ∙ sym (memb_last y done x) ∙ m)

-- ---- how many more there are with some tags more

module _ {done : List ℕ} {index : TagIndex} {n old : ℕ} {seen : List ℕ} (a : Adding done index n old seen) (xs : List ℕ)
    {tagCount : ℕ} {now-index : TagIndex} where
  -- in the index
  tags_most : Sorted now-index tagCount
      → table_of now-index tagCount ≡ insert_all (table_of index n) xs → tagCount ≤ n + length xs
  tags_most s e =
      omega (
        arith,
        sorted_size s,
        ap length e,
        length-insert_all_bound (table_of index n) xs,
        sorted_size a.sorted,
      )

  -- among the distinct ones of the set
  distinct_most : {distinct : ℕ} {now-seen : List ℕ} → Adding (done ++ xs) now-index tagCount distinct now-seen
      → distinct ≤ old + length xs
  distinct_most b =
      omega (
        arith,
        b.counted,
        ap length (insert_all_append [] done xs),
        length-insert_all_bound (collapse done) xs,
        a.counted,
      )

-- ---- the tags of a record one after the other: the invariant of `add_tags`, with its start and step

pub record Going (done file : List ℕ) (start n : ℕ) (was-index : TagIndex) (k tagCount distinct : ℕ)
    (index : TagIndex) (seen : List ℕ) : Type 0 where
  pub adding : Adding (done ++ tags_at k file start) index tagCount distinct seen
  pub table : table_of index tagCount ≡ insert_all (table_of was-index n) (tags_at k file start)

module _ {done file : List ℕ} {start n old : ℕ} {was-index : TagIndex} {was-seen : List ℕ}
    (a : Adding done was-index n old was-seen) where
  pub going_start : Going done file start n was-index 0 n old was-index was-seen
  unfolding tags_at insert_all
  going_start =
      record {
        adding = subst (λ (l : List ℕ). Adding l was-index n old was-seen) (sym (append-nil done)) a;
        table = refl;
      }

  module _ {k tagCount distinct : ℕ} {index : TagIndex} {seen : List ℕ}
      (g : Going done file start n was-index k tagCount distinct index seen) where
    pub going_tags : tagCount ≤ n + k
    going_tags = omega (arith, tags_most a (tags_at k file start) g.adding.sorted g.table, length-tags_at k file start)

    pub going_distinct : distinct ≤ old + k
    going_distinct = omega (arith, distinct_most a (tags_at k file start) g.adding, length-tags_at k file start)

    pub going_step : {found : Found} {r : ℕ} {now-index : TagIndex} {now-seen : List ℕ}
        → OneTaken (tag_at file (past_tags start k)) tagCount index found now-index
        → Seen seen found.id r now-seen
        → Going done file start n was-index (k + 1) found.tag_count (distinct + r)
        now-index now-seen
    going_step {found} {r} {now-index} {now-seen} o s =
        let x = tag_at file (past_tags start k) in
        let more : (done ++ tags_at k file start) ++ (x ∷ []) ≡ done ++ tags_at (k + 1) file start =
        append_assoc done (tags_at k file start) (x ∷ []) ∙ ap (λ (l : List ℕ). done ++ l) (sym (tags_at_next k file start))
        in
        record {
          adding = subst (λ (l : List ℕ). Adding l now-index found.tag_count (distinct + r) now-seen) more
              (adding_step g.adding o s);
          table = o.table ∙ ap (insert x) g.table
              ∙ sym (insert_all_last (table_of was-index n) (tags_at k file start) x)
              ∙ sym (ap (insert_all (table_of was-index n)) (tags_at_next k file start));
        }

  module _ {count tagCount distinct : ℕ} {index : TagIndex} {seen : List ℕ}
      (all : AllAdded done file start count n was-index tagCount distinct index seen) where
    pub added_tags : tagCount ≤ n + count
    added_tags =
        omega (
          arith,
          tags_most a (tags_at count file start) all.adding.sorted all.table,
          length-tags_at count file start,
        )

    pub added_distinct : distinct ≤ old + count
    added_distinct = omega (arith, distinct_most a (tags_at count file start) all.adding, length-tags_at count file start)
