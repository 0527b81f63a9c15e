-- The tags of one set taken in, from a record of the first file and then from one of the second: what the index and the counts have then.
use Rattle.std.specs.Prelude.{unwrap_or}
use Rattle.std.proofs.Common.{◌≡◌, ℕ, ◌+◌, ◌≤◌, true, List, [], ◌∷◌, ◌++◌, length, replicate, sym, ap, ◌∙◌, subst, ap₂, arith}
use Rattle.lists.specs.Lists.{memb, rising}
use Rattle.lists.proofs.Bools.{by_test}
use Rattle.lists.proofs.Rising.{rising_same}
use Rattle.sets.specs.Limits.{max_set_length}
use Rattle.sets.specs.declared.Side.{Side}
use Rattle.sets.specs.declared.Refusal.{Refusal}
use Rattle.tag_file.specs.declared.ReadAnswer.TheVariants.{Record, NoMore, Refused}
use Rattle.tag_file.specs.Reading.{read_at, past_tags, tags_at}
use Rattle.tag_file.specs.Records.{insert, insert_all, collapse}
use Rattle.tag_file.proofs.RecordLaws.{length-tags_at}
use Rattle.tag_file.proofs.Tables.{insert_all_append, length-insert_all_bound, length-insert, rising-insert, rising-collapse, memb-insert_all, rising-insert_all}
use Rattle.tag_index.specs.Index.{table_of, Sorted}
use Rattle.tag_index.proofs.Ids.{sorted_size}
use Rattle.tag_index.specs.tag_adding.Adding.{seen_words, Adding, SomeAdding, RoomToAdd, AllAdded}
use Rattle.tag_index.proofs.tag_adding.AddLaws.{adding_start}
use Rattle.pool_scan.specs.declared.union.United.{United}
use Rattle.pool_scan.specs.union.Union.{WholeRecordAt, KnownRecordAt, IndexReady, TakenIn}
use Rattle.tag_index.specs.declared.TagIndex.{TagIndex}

-- tags that a table has leave it as it is
table_known : (table xs : List ℕ) → rising table ≡ true → ((y : ℕ) → memb y xs ≡ true → memb y table ≡ true)
    → insert_all table xs ≡ table
table_known table xs r known =
    rising_same (insert_all table xs) table (rising-insert_all table xs r) r
    (λ y. memb-insert_all y table xs ∙ by_test (memb y xs) (λ t. rw (t, known y t)) (λ f. rw f))

-- no fewer with more
insert_all_more : (table xs : List ℕ) → rising table ≡ true → length table ≤ length (insert_all table xs)
unfolding insert_all
insert_all_more table [] r = omega arith
insert_all_more table (x ∷ xs) r =
    omega (arith, length-insert x table r, insert_all_more (insert x table) xs (rising-insert x table r))

pub collapse_more : (xs ys : List ℕ) → length (collapse xs) ≤ length (collapse (xs ++ ys))
collapse_more xs ys =
    subst (λ (l : List ℕ). length (collapse xs) ≤ length l) (sym (insert_all_append [] xs ys))
    (insert_all_more (collapse xs) ys (rising-collapse xs))

module _ {index : TagIndex} {n : ℕ} (i : IndexReady index n) where
  pub start_adding : {seen : List ℕ} → seen ≡ replicate seen_words 0 → Adding [] index n 0 seen
  start_adding e = subst (λ (l : List ℕ). Adding [] index n 0 l) (sym e) (adding_start i.sorted)

  pub start_some : {seen : List ℕ} → seen ≡ replicate seen_words 0 → SomeAdding index n 0 seen
  start_some e = record { done = []; adding = start_adding e }

  pub start_room : (file : List ℕ) (start count : ℕ) → past_tags start count ≤ length file → count ≤ max_set_length
      → RoomToAdd file start count n 0
  start_room file start count inside few =
      record { inside = inside; room = omega (arith, i.small); count_room = omega arith }

  -- one record alone
  module _ {file : List ℕ} {start count tagCount distinct : ℕ} {now-index : TagIndex} {now-seen : List ℕ}
      (a : AllAdded [] file start count n index tagCount distinct now-index now-seen)
      (few : count ≤ max_set_length) where
    added_few : distinct ≤ max_set_length
    added_few =
        omega (arith, a.adding.counted, length-insert_all_bound [] (tags_at count file start), length-tags_at count file start)

    pub taken_alone : {u : United} → u.tag_count ≡ tagCount → unwrap_or u.first 0 ≡ 0 → u.second ≡ distinct → u.all ≡ distinct
        → TakenIn [] (tags_at count file start) index n u now-index
    unfolding insert_all
    taken_alone {u} is none new all =
        record {
          sorted = subst (λ (k : ℕ). Sorted now-index k) (sym is) a.adding.sorted;
          table = ap (λ (k : ℕ). table_of now-index k) is ∙ a.table;
          own_counted = none;
          new_counted = new ∙ a.adding.counted;
          all_counted = all ∙ a.adding.counted;
          less = omega (arith, none);
          few = omega (arith, all, added_few);
        }

    -- its tags were known: the index has no more
    module _ (known : (y : ℕ) → memb y (tags_at count file start) ≡ true → memb y (table_of index n) ≡ true) where
      same_table : table_of now-index tagCount ≡ table_of index n
      same_table = a.table ∙ table_known (table_of index n) (tags_at count file start) i.sorted.rises known

      pub same_tags : tagCount ≡ n
      same_tags = sym (sorted_size a.adding.sorted) ∙ ap length same_table ∙ sorted_size i.sorted

      pub next_some : SomeAdding now-index tagCount distinct now-seen
      next_some = record { done = tags_at count file start; adding = a.adding }

      pub next_room : (second : List ℕ) (start₂ count₂ : ℕ) → past_tags start₂ count₂ ≤ length second → count₂ ≤ max_set_length
          → RoomToAdd second start₂ count₂ tagCount distinct
      next_room second start₂ count₂ inside few₂ =
          record { inside = inside; room = omega (arith, same_tags, i.small); count_room = omega (arith, added_few) }

      -- and then a record of the second file
      module _ {second : List ℕ} {start₂ count₂ tagCount₂ distinct₂ : ℕ} {late-index : TagIndex} {late-seen : List ℕ}
          (b : AllAdded (tags_at count file start) second start₂ count₂ tagCount now-index tagCount₂ distinct₂
          late-index late-seen) (few₂ : count₂ ≤ max_set_length) where
        pub both_few : distinct₂ ≤ max_set_length + max_set_length
        both_few =
            omega (
              arith,
              b.adding.counted,
              ap length (insert_all_append [] (tags_at count file start) (tags_at count₂ second start₂)),
              length-insert_all_bound (collapse (tags_at count file start)) (tags_at count₂ second start₂),
              length-tags_at count₂ second start₂,
              a.adding.counted,
              added_few,
            )

        pub taken_both : {u : United} → u.tag_count ≡ tagCount₂ → unwrap_or u.first 0 ≡ distinct
            → u.second ≡ length (collapse (tags_at count₂ second start₂)) → u.all ≡ distinct₂
            → TakenIn (tags_at count file start) (tags_at count₂ second start₂) index n u late-index
        taken_both {u} is own new all =
            record {
              sorted = subst (λ (k : ℕ). Sorted late-index k) (sym is) b.adding.sorted;
              table = ap (λ (k : ℕ). table_of late-index k) is ∙ b.table
                  ∙ ap (λ (l : List ℕ). insert_all l (tags_at count₂ second start₂)) same_table;
              own_counted = own ∙ a.adding.counted;
              new_counted = new;
              all_counted = all ∙ b.adding.counted;
              less = omega (
                arith,
                own,
                all,
                a.adding.counted,
                b.adding.counted,
                collapse_more (tags_at count file start) (tags_at count₂ second start₂),
              );
              few = omega (arith, all, both_few);
            }

-- a place has one record
there_same : {file : List ℕ} {at c p d q : ℕ} → WholeRecordAt file at c p → WholeRecordAt file at d q → (c ≡ d) × (p ≡ q)
there_same {file} {at} {c} {p} {d} {q} a b =
    let e = sym a.read ∙ b.read in
    (cc, cc)

-- so what is known of its tags is known of those that were read
pub known_read : {file : List ℕ} {at : ℕ} {table : List ℕ} {c p : ℕ} → KnownRecordAt file at table → WholeRecordAt file at c p
    → (y : ℕ) → memb y (tags_at c file p) ≡ true → memb y table ≡ true
known_read {file} {at} {table} {c} {p} k r y m =
    let same = there_same k.there r in
    k.known y (ap₂ (λ (a b : ℕ). memb y (tags_at a file b)) same.0 same.1 ∙ m)

-- what was added for the record that was read was added for the one that is there
pub added_as : {file : List ℕ} {at c p d q n : ℕ} {side : Side} {number next : ℕ} {index : TagIndex} {tagCount distinct : ℕ}
    {now-index : TagIndex} {now-seen : List ℕ}
    → AllAdded [] file p c n index tagCount distinct now-index now-seen
    → read_at file at ≡ Record side number c p next → WholeRecordAt file at d q
    → AllAdded [] file q d n index tagCount distinct now-index now-seen
added_as {file} {at} {c} {p} {d} {q} {n} {side} {number} {next} {index} {tagCount} {distinct} {now-index} {now-seen} a e there =
    let same = there_same (record { side = side; number = number; next = next; read = e }) there in
    subst (λ (k : ℕ). AllAdded [] file k d n index tagCount distinct now-index now-seen) same.1
    (subst (λ (k : ℕ). AllAdded [] file p k n index tagCount distinct now-index now-seen) same.0 a)

pub no_record_there : {A : Type 0} {file : List ℕ} {at c p : ℕ} → read_at file at ≡ NoMore → WholeRecordAt file at c p → A
no_record_there e there = let both = sym there.read ∙ e in let z : ◌≡◌ {A = ℕ} 0 1 = cc in absurd (omega arith)

pub refused_there : {A : Type 0} {file : List ℕ} {at c p : ℕ} {why : Refusal} → read_at file at ≡ Refused why → WholeRecordAt file at c p → A
refused_there e there = let both = sym there.read ∙ e in let z : ◌≡◌ {A = ℕ} 0 1 = cc in absurd (omega arith)
