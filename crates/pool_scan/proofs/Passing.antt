-- The pass over the second file: its invariant over the records seen so far, with its start, its ends and its steps.
use Rattle.std.specs.Prelude.{Result, Err, Ok, ⊤}
use Rattle.std.proofs.Common.{◌≡◌, ℕ, ◌+◌, ◌-◌, ◌<◌, ◌≤◌, Bool, true, false, not, eqb, ltb, List, [], ◌∷◌, ◌++◌, length, sym, refl, ap, ◌∙◌, subst, ap₂, append_assoc, append-nil, add-zero, arith, eq-eqb, ne_eqb}
use Rattle.lists.specs.Lists.{keep, sum}
use Rattle.bit_sets.specs.BitSets.{member, Inserted}
use Rattle.sets.specs.Limits.{max_sets, max_set_length, half_words}
use Rattle.sets.specs.Refusals.{refuse_if, unless}
use Rattle.sets.specs.declared.Side.{Side}
use Rattle.sets.specs.declared.Side.TheVariants.{Left, Right}
use Rattle.sets.specs.declared.Refusal.{Refusal}
use Rattle.sets.specs.declared.Refusal.TheVariants.{Malformed, NumberUsed, TooMany, Overlong}
use Rattle.tag_file.proofs.AnswerLaws.{load_of}
use Rattle.tag_file.specs.declared.Loaded.{Loaded}
use Rattle.tag_file.specs.declared.Repeats.{Repeats}
use Rattle.tag_file.specs.declared.ReadAnswer.TheVariants.{Record}
use Rattle.tag_file.specs.Reading.{read_at, tags_at}
use Rattle.tag_file.specs.Records.{TagRecord, total_length, records_at, records, same_side, all_tags, collapse}
use Rattle.tag_file.specs.Repeats.{repeats_in, repeats_of}
use Rattle.tag_file.specs.Loading.{number_used, totals_of}
use Rattle.tag_file.proofs.RecordLaws.{length-tags_at, read_within, read_length, records_next, total_length_last, total_length_inside}
use Rattle.tag_file.proofs.RepeatLaws.{distinct_and_repeats, repeats_are, repeats_bound, repeats_same, repeats_other}
use Rattle.pool_loader_spec.specs.Pooling.{pooled_repeats}
use Rattle.pool_loader_spec.specs.Pooling.{same_set, pooled, place_after, second_fault_of, first_second_fault, second_fault, is_overlong, first_overlong}
use Rattle.pool_loader_spec.proofs.OneMore.{pooled_none, pooled_left}
use Rattle.pool_loader_spec.proofs.Sides.{right_apart}
use Rattle.tag_scan.specs.totals.Totals.{passes, word_numbers}
use Rattle.tag_scan.specs.Scan.{Taken}
use Rattle.pool_scan.specs.right_slots.Slots.{AtSlots, slot_word}
use Rattle.pool_scan.specs.declared.union.United.{United}
use Rattle.pool_scan.specs.declared.counting.Counted.{Counted}
use Rattle.pool_scan.specs.declared.counting.Second.{Second}
use Rattle.pool_scan.specs.counting.Counting.{counted_from, united_by, counted_by, accepted_by}
use Rattle.pool_scan.specs.Second.{SecondReady, SecondScanned}
use Rattle.pool_scan.proofs.Counts.{OneTaken}
use Rattle.pool_scan.proofs.Words.{word_apart, word_start, long_of, RightNoted, noted_tells, noted_left, noted_right}
use Rattle.tag_index.specs.declared.TagIndex.{TagIndex}

-- what the reading of the second file ends with
abbrev last_fault : List ℕ → List ℕ → Result ⊤ Refusal
last_fault first second =
    refuse_if (not (eqb (total_length (records second)) (length second))) (Malformed (place_after (length first) (total_length (records second))))

-- whether the counts of the right side pass a limit
abbrev pub over_of : Loaded → Bool
over_of t = passes t.right_sets t.right_entries t.tag_count

pub record Passing (first second noted used : List ℕ) (index : TagIndex) (slots : List ℕ) (counted : Counted) (at : ℕ) : Type 0 where
  pub seen : List TagRecord
  pub split : records second ≡ seen ++ records_at second at
  pub place : at ≡ total_length seen
  pub within : at ≤ length second
  pub fault : second_fault (records first) (length first) second
      ≡ first_second_fault (records first) (length first) seen (records_at second at) (last_fault first second)
  pub longest : first_overlong (records first) (length first) [] (records second)
      ≡ unless Err counted.long (first_overlong (records first) (length first) seen (records_at second at))
  pub numbers : RightNoted noted seen
  pub taken : Taken (pooled (records first) seen) counted.total index
  pub repeated : counted.repeats ≡ pooled_repeats (records first) seen
  pub size : length slots ≡ max_sets
  pub words : AtSlots (slot_word seen) (records first) used slots

-- by what is counted
pub passing_by : {first second noted used : List ℕ} {index : TagIndex} {slots : List ℕ} {counted was : Counted} {at : ℕ} → counted ≡ was
    → Passing first second noted used index slots was at → Passing first second noted used index slots counted at
passing_by {first} {second} {noted} {used} {index} {slots} {counted} {was} {at} e p =
    subst (λ (k : Counted). Passing first second noted used index slots k at) (sym e) p

pub passing_start : {first second used counts : List ℕ} {index : TagIndex} {slots noted : List ℕ} {total : Loaded} {found : Repeats}
    → SecondReady first total found index used counts slots → RightNoted noted []
    → Passing first second noted used index slots (counted_from total found) 0
unfolding second_fault sum keep
passing_start {first} {second} {used} {counts} {index} {slots} {noted} {total} {found} r empty =
    record {
      seen = [];
      split = refl;
      place = refl;
      within = omega arith;
      fault = refl;
      longest = refl;
      numbers = empty;
      taken = subst (λ (rs : List TagRecord). Taken rs total index) (sym (pooled_none (records first))) r.taken;
      repeated = r.repeated
          ∙ ap (λ (k : ℕ). record { left = repeats_of Left (records first); right = k })
          (sym (add-zero (repeats_of Right (records first))));
      size = r.slotted.size;
      words = λ b q a e side. r.slotted.places b q a e side ∙ sym (word_start b q);
    }

-- ---- ends

-- a fault is what the pair is refused with
second_refused : {first second : List ℕ} {index : TagIndex} {used slots : List ℕ} (why : Refusal) {r : Second}
    → second_fault (records first) (length first) second ≡ Err why → length slots ≡ max_sets → r.answer ≡ Err why
    → SecondScanned first second index used slots r
second_refused why e size is =
    record {
      answer = is ∙ rw e;
      long = λ n. never (sym e ∙ n);
      taken = λ n. never (sym e ∙ n);
      size = size;
      words = λ n. never (sym e ∙ n);
    }
  where
    never : {A : Type 0} {w : Refusal} → ◌≡◌ {A = Result ⊤ Refusal} (Err w) (Ok tt) → A
    never e = let z : ◌≡◌ {A = ℕ} 0 1 = cc in absurd (omega arith)

unless_twice : (a b c : Result ⊤ Refusal) → unless Err a (unless Err b c) ≡ unless Err (unless Err a b) c
unless_twice (Ok _) b c = refl
unless_twice (Err w) b c = refl

unless_passed : (a : Result ⊤ Refusal) → unless Err a (Ok tt) ≡ a
unless_passed (Ok _) = refl
unless_passed (Err w) = refl

module _ {first second noted used : List ℕ} {index : TagIndex} {slots : List ℕ} {counted : Counted} {at : ℕ}
    (p : Passing first second noted used index slots counted at) where
  abbrev A : List TagRecord
  A = records first

  abbrev base : ℕ
  base = length first

  -- there are no records from here on
  module _ (stop : records_at second at ≡ []) where
    all_seen : records second ≡ p.seen
    all_seen = p.split ∙ ap (λ (l : List TagRecord). p.seen ++ l) stop ∙ append-nil p.seen

    at_end : total_length (records second) ≡ at
    at_end = ap total_length all_seen ∙ sym p.place

    last_is : second_fault A base second ≡ refuse_if (not (eqb at (length second))) (Malformed (place_after base at))
    unfolding first_second_fault
    last_is =
        p.fault ∙ ap (λ (l : List TagRecord). first_second_fault A base p.seen l (last_fault first second)) stop
        ∙ ap (λ (k : ℕ). refuse_if (not (eqb k (length second))) (Malformed (place_after base k))) at_end

    -- at the file's end
    pub passing_whole : {r : Second} → at ≡ length second → r ≡ accepted_by counted
        → SecondScanned first second index used slots r
    unfolding first_overlong
    passing_whole {r} end told =
        let clean : second_fault A base second ≡ Ok tt = last_is ∙ rw (eq-eqb at (length second) end) in
        record {
          answer = ap (λ (q : Second). q.answer) told
              ∙ ap₂ load_of (p.taken.counts ∙ ap (λ (rs : List TagRecord). totals_of (pooled A rs)) (sym all_seen))
              (p.repeated ∙ ap (pooled_repeats A) (sym all_seen))
              ∙ rw clean;
          long = λ n. ap (λ (q : Second). q.long) told ∙ sym (unless_passed counted.long)
              ∙ ap (λ (l : List TagRecord). unless Err counted.long (first_overlong A base p.seen l)) (sym stop)
              ∙ sym p.longest;
          taken = λ n. subst (λ (rs : List TagRecord). Taken (pooled A rs) (totals_of (pooled A rs)) index) (sym all_seen)
              (subst (λ (t : Loaded). Taken (pooled A p.seen) t index) p.taken.counts p.taken);
          size = p.size;
          words = λ n. subst (λ (rs : List TagRecord). AtSlots (slot_word rs) A used slots) (sym all_seen) p.words;
        }

    -- before it
    pub passing_cut : {r : Second} → (at ≡ length second → ⊥) → r.answer ≡ Err (Malformed (place_after base at))
        → SecondScanned first second index used slots r
    passing_cut short answer =
        second_refused (Malformed (place_after base at)) (last_is ∙ rw (ne_eqb at (length second) short)) p.size answer

  -- ---- the record here

  module _ {side : Side} {n c q next : ℕ} (e : read_at second at ≡ Record side n c q next) where
    abbrev pub this : TagRecord
    this = record { side = side; number = n; tags = tags_at c second q }

    here : second_fault A base second
        ≡ unless Err (second_fault_of A base p.seen this)
        (first_second_fault A base (p.seen ++ (this ∷ [])) (records_at second next) (last_fault first second))
    unfolding first_second_fault
    here =
        p.fault
        ∙ ap (λ (l : List TagRecord). first_second_fault A base p.seen l (last_fault first second))
        (records_next second at side n c q next e)

    long_here : first_overlong A base [] (records second)
        ≡ unless Err (unless Err counted.long (refuse_if (is_overlong A this) (Overlong (place_after base at))))
        (first_overlong A base (p.seen ++ (this ∷ [])) (records_at second next))
    unfolding first_overlong
    long_here =
        p.longest
        ∙ ap (λ (l : List TagRecord). unless Err counted.long (first_overlong A base p.seen l)) (records_next second at side n c q next e)
        ∙ ap (λ (k : ℕ). unless Err counted.long (unless Err (refuse_if (is_overlong A this) (Overlong (place_after base k)))
        (first_overlong A base (p.seen ++ (this ∷ [])) (records_at second next)))) (sym p.place)
        ∙ unless_twice counted.long (refuse_if (is_overlong A this) (Overlong (place_after base at)))
        (first_overlong A base (p.seen ++ (this ∷ [])) (records_at second next))

    split_next : records second ≡ (p.seen ++ (this ∷ [])) ++ records_at second next
    split_next =
        p.split ∙ ap (λ (l : List TagRecord). p.seen ++ l) (records_next second at side n c q next e)
        ∙ sym (append_assoc p.seen (this ∷ []) (records_at second next))

    place_next : next ≡ total_length (p.seen ++ (this ∷ []))
    place_next = omega (arith, total_length_last p.seen this, p.place, length-tags_at c second q, read_length second at e)

    -- its repeats are those of its tags that are not distinct
    here_repeats : {fresh : ℕ} → fresh ≡ length (collapse (tags_at c second q)) → c - fresh ≡ repeats_in (tags_at c second q)
    here_repeats {fresh} distinct = repeats_are (tags_at c second q) c fresh (length-tags_at c second q) distinct

    -- and lie in the file: with those before there are fewer than bytes in both
    pub passing_repeats : {fresh : ℕ} → fresh ≡ length (collapse (tags_at c second q)) → length first < word_numbers
        → length second < word_numbers → (fresh ≤ c) × (counted.repeats.right + (c - fresh) < word_numbers)
    passing_repeats {fresh} distinct fits-first fits-second = (
      omega (arith, distinct, distinct_and_repeats (tags_at c second q), length-tags_at c second q),
      omega (
        arith,
        fits-first,
        fits-second,
        ap (λ (q : Repeats). q.right) p.repeated,
        p.place,
        repeats_bound Right A,
        total_length_inside first,
        repeats_bound Right p.seen,
        read_length second at e,
        read_within second at e,
      ),
    )

    -- a left set's: it is passed over
    pub passing_left : same_side Right side ≡ false → Passing first second noted used index slots counted next
    unfolding second_fault_of
    passing_left left =
        record {
          seen = p.seen ++ (this ∷ []);
          split = split_next;
          place = place_next;
          within = read_within second at e;
          fault = here ∙ rw left;
          longest = long_here ∙ rw (left, unless_passed counted.long);
          numbers = noted_left p.numbers this left;
          taken = subst (λ (rs : List TagRecord). Taken rs counted.total index) (sym (pooled_left A p.seen this left))
              p.taken;
          repeated = p.repeated
              ∙ ap (λ (k : ℕ). record { left = repeats_of Left A; right = repeats_of Right A + k })
              (sym (repeats_other Right p.seen this left));
          size = p.size;
          words = λ b r a is right.
              let apart : same_set r this ≡ false = rw (right_apart r.side side right left) in
              p.words b r a is right ∙ sym (word_apart p.seen this b r apart);
        }

    -- a right set's: its number was used, it passes a limit, or it is taken in
    module _ (right : same_side Right side ≡ true) (small : n < half_words) where
      tells : member noted n ≡ number_used p.seen this
      tells = noted_tells p.numbers this right small

      pub passing_used : {now-slots : List ℕ} {now-index : TagIndex} {r : Second} → member noted n ≡ true
          → length now-slots ≡ max_sets → r.answer ≡ Err (NumberUsed (place_after base at))
          → SecondScanned first second now-index used now-slots r
      unfolding second_fault_of
      passing_used t size answer =
          second_refused (NumberUsed (place_after base at)) (here ∙ rw (right, sym tells ∙ t, ← p.place)) size answer

      module _ (free : member noted n ≡ false) (u : United) {now-index : TagIndex} {now-slots : List ℕ}
          (one : OneTaken (pooled A (p.seen ++ (this ∷ []))) (united_by counted.total u u.first) now-index)
          (size : length now-slots ≡ max_sets) where
        pub passing_past : {r : Second} → over_of (united_by counted.total u u.first) ≡ true
            → r.answer ≡ Err (TooMany (place_after base at))
            → SecondScanned first second now-index used now-slots r
        unfolding second_fault_of
        passing_past t answer =
            second_refused (TooMany (place_after base at))
            (here ∙ rw (right, sym tells ∙ free, sym one.over ∙ t, ← p.place)) size answer

        pub passing_next : {now-noted own : List ℕ} → over_of (united_by counted.total u u.first) ≡ false
            → Inserted noted n now-noted → u.second ≡ length (collapse (tags_at c second q))
            → AtSlots (slot_word (p.seen ++ (this ∷ []))) A used now-slots
            → all_tags (keep (same_set this) A) ≡ own → u.all ≡ length (collapse (own ++ tags_at c second q))
            → Passing first second now-noted used now-index now-slots (counted_by counted u c (place_after base at))
            next
        unfolding second_fault_of
        passing_next {now-noted} {own} few note distinct words is all =
            record {
              seen = p.seen ++ (this ∷ []);
              split = split_next;
              place = place_next;
              within = read_within second at e;
              fault = here ∙ rw (right, sym tells ∙ free, sym one.over ∙ few);
              longest = long_here
                  ∙ ap (λ (t : Result ⊤ Refusal). unless Err t (first_overlong A base (p.seen ++ (this ∷ [])) (records_at second next)))
                  (ap (λ (b : Bool). unless Err counted.long (refuse_if b (Overlong (place_after base at))))
                  (long_of A this own right is ∙ ap (ltb max_set_length) (sym all)));
              numbers = noted_right p.numbers this right note;
              taken = one.taken (sym one.over ∙ few);
              repeated = ap₂ (λ (a b : ℕ). record { left = a; right = b }) (ap (λ (q : Repeats). q.left) p.repeated) (rights distinct);
              size = size;
              words = words;
            }
          where
            rights : {fresh : ℕ} → fresh ≡ length (collapse (tags_at c second q))
                → counted.repeats.right + (c - fresh) ≡ repeats_of Right A + repeats_of Right (p.seen ++ (this ∷ []))
            rights distinct =
                omega (
                  arith,
                  ap (λ (q : Repeats). q.right) p.repeated,
                  here_repeats distinct,
                  repeats_same Right p.seen this right,
                )
