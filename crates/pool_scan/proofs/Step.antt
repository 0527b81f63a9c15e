-- A right set of the second file in the pass: what it asks for before its tags are taken in, and what holds of the pooled records, the
-- slots and its length once they are. It is one that the first file has, or one that it has not.
use Rattle.std.specs.Prelude.{Option, Some, None, is_some, unwrap_or}
use Rattle.std.proofs.Common.{◌≡◌, ℕ, ◌+◌, ◌<◌, ◌≤◌, true, false, eqb, List, [], ◌∷◌, ◌++◌, length, get_or, set, sym, refl, ap, ◌∙◌, subst, arith, length-set, eq-eqb, eqb-true}
use Rattle.lists.specs.Lists.{keep, any, memb}
use Rattle.lists.proofs.Bools.{by_test, and_right, and_both, or_left_false, or_right_false, refuted}
use Rattle.lists.proofs.Throughout.{any_append}
use Rattle.bit_sets.specs.BitSets.{member}
use Rattle.sets.specs.Limits.{max_sets, max_set_length, half_words}
use Rattle.sets.specs.declared.Side.{Side}
use Rattle.sets.specs.declared.Side.TheVariants.{Right}
use Rattle.tag_file.specs.declared.Loaded.{Loaded}
use Rattle.tag_file.specs.declared.Repeats.{Repeats}
use Rattle.tag_file.specs.declared.ReadAnswer.TheVariants.{Record}
use Rattle.tag_file.specs.Reading.{read_at, tags_at}
use Rattle.tag_file.specs.Records.{TagRecord, total_length, records, same_side, all_tags, collapse}
use Rattle.tag_file.specs.Loading.{number_used}
use Rattle.tag_file.proofs.FoundRecords.{ReadFound, read_found, found_number}
use Rattle.tag_file.proofs.RecordLaws.{same_side_lem, read_past, read_within}
use Rattle.tag_file.proofs.Tables.{memb-collapse}
use Rattle.pool_loader_spec.specs.Pooling.{same_set, pooled}
use Rattle.pool_loader_spec.proofs.OneMore.{Grown, used_same, memb_around, pooled_new, pooled_met, met_only}
use Rattle.pool_loader_spec.proofs.Sides.{right_both}
use Rattle.tag_index.specs.Index.{table_of}
use Rattle.pool_scan.specs.right_slots.Slots.{number_slot, AtSlots, slot_word, pooled_mark, NumbersOnce}
use Rattle.pool_scan.proofs.right_slots.Counted.{slot_below}
use Rattle.pool_scan.proofs.right_slots.Found.{FoundRight, found_right, missed_right}
use Rattle.pool_scan.proofs.right_slots.Putting.{NumbersSmall, at_slots_put}
use Rattle.pool_scan.specs.declared.union.United.{United}
use Rattle.pool_scan.specs.union.Union.{WholeRecordAt, KnownRecordAt, UniteReady, Taking, TakenIn}
use Rattle.pool_scan.specs.declared.counting.Counted.{Counted}
use Rattle.pool_scan.specs.counting.Counting.{united_by}
use Rattle.pool_scan.specs.Second.{SecondReady}
use Rattle.pool_scan.proofs.Counts.{OneTaken, alone_taken, met_taken}
use Rattle.pool_scan.proofs.Passing.{Passing, this}
use Rattle.pool_scan.proofs.Words.{word_apart, word_met, own_none, own_one, noted_tells}
use Rattle.tag_index.specs.declared.TagIndex.{TagIndex}

-- an option without a value, and one with a value
no_value : (o : Option ℕ) → is_some o ≡ false → o ≡ None
no_value None e = refl
no_value (Some x) e = cc

its_value : (o : Option ℕ) → is_some o ≡ true → o ≡ Some (unwrap_or o 0)
its_value None e = cc
its_value (Some x) e = refl

-- what holds once the tags of a record are taken in
pub record Stepped (first : List ℕ) (seen : List TagRecord) (s : TagRecord) (used : List ℕ) (total : Loaded) (u : United)
    (now-index : TagIndex) (now-slots : List ℕ) : Type 0 where
  pub one : OneTaken (pooled (records first) (seen ++ (s ∷ []))) (united_by total u u.first) now-index
  pub size : length now-slots ≡ max_sets
  pub words : AtSlots (slot_word (seen ++ (s ∷ []))) (records first) used now-slots
  pub own : List ℕ
  pub is : all_tags (keep (same_set s) (records first)) ≡ own
  pub counted : u.all ≡ length (collapse (own ++ s.tags))
  pub distinct : u.second ≡ length (collapse s.tags)

module _ {first second used counts : List ℕ} {index₀ : TagIndex} {slots₀ : List ℕ} {total₀ : Loaded} {found₀ : Repeats}
    (ready : SecondReady first total₀ found₀ index₀ used counts slots₀) (byte : (i : ℕ) → get_or first i 0 < 256)
    {noted : List ℕ} {index : TagIndex} {slots : List ℕ} {counted : Counted} {at : ℕ}
    (p : Passing first second noted used index slots counted at)
    {side : Side} {n c q next : ℕ} (e : read_at second at ≡ Record side n c q next)
    (right : same_side Right side ≡ true) (small : n < half_words) (free : member noted n ≡ false) where
  abbrev total : Loaded
  total = counted.total

  abbrev s : TagRecord
  s = this p e

  abbrev A : List TagRecord
  A = records first

  once : NumbersOnce A
  once = ready.slottable.once

  smalls : NumbersSmall A
  smalls b r a split = found_number first byte b r a split

  new : number_used p.seen s ≡ false
  new = sym (noted_tells p.numbers s right small) ∙ free

  -- ---- the first file has its number
  module _ (met : member used n ≡ true) where
    f : FoundRight A n
    f = found_right ready.slotted.noted n small met

    abbrev r : TagRecord
    r = f.this

    same : same_set r s ≡ true
    same = and_both (right_both r.side side f.right right) (eq-eqb r.number n f.number)

    new_r : number_used p.seen r ≡ false
    new_r = sym (used_same p.seen r s same) ∙ new

    found : ReadFound first (total_length f.before) r f.after
    found = read_found first f.before r f.after f.split

    at_slot : get_or slots (number_slot used n) 0 ≡ total_length f.before
    at_slot =
        ap (λ (k : ℕ). get_or slots (number_slot used k) 0) (sym f.number)
        ∙ p.words f.before r f.after f.split f.right ∙ rw new_r

    there : WholeRecordAt first (get_or slots (number_slot used n) 0) found.count found.place
    there =
        record {
          side = r.side;
          number = r.number;
          next = found.next;
          read = ap (read_at first) at_slot ∙ found.read;
        }

    grew : Grown (pooled A p.seen) (pooled A (p.seen ++ (s ∷ []))) r s.tags
    grew =
        subst (λ (l : List TagRecord). Grown (pooled l p.seen) (pooled l (p.seen ++ (s ∷ []))) r s.tags) (sym f.split)
        (pooled_met f.before r f.after p.seen s right same new (λ b t a is. once b t a (f.split ∙ is)))

    only : keep (same_set s) A ≡ r ∷ []
    only =
        ap (keep (same_set s)) f.split
        ∙ met_only f.before r f.after p.seen s right same new (λ b t a is. once b t a (f.split ∙ is))

    known : (y : ℕ) → memb y (tags_at found.count first found.place) ≡ true → memb y (table_of index total.tag_count) ≡ true
    known y m =
        ap (memb y) p.taken.table ∙ memb-collapse y (all_tags (pooled A p.seen))
        ∙ ap (λ (l : List TagRecord). memb y (all_tags l)) grew.stood
        ∙ memb_around grew.before r grew.after y (ap (memb y) found.tags ∙ m)

    pub step_there : KnownRecordAt first (get_or slots (number_slot used n) 0) (table_of index total.tag_count)
    step_there = record { count = found.count; start = found.place; there = there; known = known }

    pub step_slot : number_slot used n < max_sets
    step_slot = slot_below used ready.slotted.noted n small met

  pub step_ready : c ≤ max_set_length → UniteReady first second n q c total.tag_count index used counts slots
  step_ready few =
      record {
        index_ready = record { sorted = p.taken.sorted; small = p.taken.limited.tags };
        tags_inside = record { inside = omega (arith, read_past second at e, read_within second at e); few = few };
        wide = ready.slotted.noted.wide;
        small = small;
        counted = ready.slotted.counted;
        size = p.size;
        slot = step_slot;
        there = step_there;
      }

  module _ {u : United} {now-index : TagIndex} {now-slots : List ℕ}
      (t : Taking first second n q c total.tag_count index used slots u now-index now-slots) where
    counts_alone : member used n ≡ false → united_by total u u.first ≡ united_by total u None
    counts_alone out = ap (united_by total u) (no_value u.first (t.told ∙ out))

    counts_met : member used n ≡ true → united_by total u u.first ≡ united_by total u (Some (unwrap_or u.first 0))
    counts_met met = ap (united_by total u) (its_value u.first (t.told ∙ met))

    pub step_bounds : (unwrap_or u.first 0 ≤ u.all) × (u.all ≤ max_set_length + max_set_length)
    step_bounds =
        by_test (member used n)
        (λ met. let i = t.met met (found met).count (found met).place (there met) in (i.less, i.few))
        (λ out. ((t.alone out).less, (t.alone out).few))

    -- one that the first file has not
    step_alone : member used n ≡ false → Stepped first p.seen s used total u now-index now-slots
    unfolding any
    step_alone out =
        let unused : number_used A s ≡ false = missed_right ready.slotted.noted n small out s right refl in
        record {
          one = subst (λ (l : Loaded). OneTaken (pooled A (p.seen ++ (s ∷ []))) l now-index) (sym (counts_alone out))
              (alone_taken p.taken s (sym (same_side_lem Right side right)) (t.alone out) (pooled_new A p.seen s right unused));
          size = ap length (t.kept out) ∙ p.size;
          words = λ b w a split side-w.
              ap (λ (l : List ℕ). get_or l (number_slot used w.number) 0) (t.kept out) ∙ p.words b w a split side-w
              ∙ sym (word_apart p.seen s b w (apart b w a split unused));
          own = [];
          is = own_none A s unused;
          counted = (t.alone out).all_counted;
          distinct = (t.alone out).new_counted;
        }
      where
        apart : (b : List TagRecord) (w : TagRecord) (a : List TagRecord) → A ≡ b ++ (w ∷ a) → number_used A s ≡ false → same_set w s ≡ false
        apart b w a split unused =
            or_left_false (same_set w s) (number_used a s)
            (or_right_false (number_used b s) (number_used (w ∷ a) s)
            (sym (any_append (λ x. same_set x s) b (w ∷ a)) ∙ ap (λ (l : List TagRecord). number_used l s) (sym split) ∙ unused))

    -- one that it has
    step_met : member used n ≡ true → Stepped first p.seen s used total u now-index now-slots
    step_met met =
        let w = f met in
        let i = subst (λ (l : List ℕ). TakenIn l (tags_at c second q) index total.tag_count u now-index)
        (sym (found met).tags) (t.met met (found met).count (found met).place (there met)) in
        record {
          one = subst (λ (l : Loaded). OneTaken (pooled A (p.seen ++ (s ∷ []))) l now-index) (sym (counts_met met))
              (met_taken p.taken w.this (sym (same_side_lem Right w.this.side w.right)) (tags_at c second q) i (grew met));
          size = ap length (t.noted met) ∙ length-set slots (number_slot used n) (pooled_mark + u.all) ∙ p.size;
          words = subst (λ (l : List ℕ). AtSlots (slot_word (p.seen ++ (s ∷ []))) A used l) (sym (written met w))
              (at_slots_put A used slots (slot_word p.seen) (slot_word (p.seen ++ (s ∷ []))) once ready.slotted.noted smalls p.size
              p.words w.before w.this w.after (pooled_mark + u.all) w.split w.right
              (word_met p.seen s w.before w.this right (same met) (new_r met) ∙ ap (λ (k : ℕ). pooled_mark + k) (sym i.all_counted))
              (λ b x a split side-x other. word_apart p.seen s b x (apart x other)));
          own = w.this.tags;
          is = own_one A s w.this (only met);
          counted = i.all_counted;
          distinct = i.new_counted;
        }
      where
        written : (met : member used n ≡ true) (w : FoundRight A n)
            → now-slots ≡ set slots (number_slot used w.this.number) (pooled_mark + u.all)
        written met w = t.noted met ∙ ap (λ (k : ℕ). set slots (number_slot used k) (pooled_mark + u.all)) (sym w.number)

        apart : (x : TagRecord) → (x.number ≡ (f met).this.number → ⊥) → same_set x s ≡ false
        apart x other =
            refuted (same_set x s)
            (λ yes. other (eqb-true x.number n (and_right (same_side x.side side) (eqb x.number n) yes) ∙ sym (f met).number))

    pub stepped : Stepped first p.seen s used total u now-index now-slots
    stepped = by_test (member used n) step_met step_alone
