-- The walk over the first file at a right set: what its writing asks, and the step. The word of its slot tells the length of its
-- union.
use mathlib.Core.Path.{◌≡◌, sym, ap, subst, ◌∙◌}
use mathlib.Core.List.{List, [], ◌∷◌, ◌++◌, map, map-append, map-map, append_assoc, flatten}
use mathlib.Core.Bool.{Bool, true, cond}
use Prim.Native.Nat.{ℕ, ◌+◌, ◌<◌, ◌≤◌}
use native.Mathlib.Omega.{arith}
use borrow.Author.Tests.{lt-ltb, le-ltb}
use lib.ListN.{length, get_or, length-append, length-set}
use lib.Seq as seq
use Rattle.lists.specs.Lists.{keep, memb}
use Rattle.bit_sets.specs.BitSets.{member}
use Rattle.sets.specs.Limits.{half_words}
use Rattle.sets.specs.declared.Side.{Side}
use Rattle.sets.specs.declared.Side.TheVariants.{Right}
use Rattle.tag_file.specs.Format.{tag_at}
use Rattle.tag_file.specs.Reading.{read_at, past_tags, tags_at}
use Rattle.tag_file.specs.Records.{TagRecord, records_at, records, same_side, of_side, items_of, sets_of_side}
use Rattle.tag_file.specs.Loading.{numbers_of}
use Rattle.tag_file.specs.declared.ReadAnswer.TheVariants.{Record}
use Rattle.tag_file.proofs.RecordLaws.{memb-tags_at, read_past, read_within, read_number, records_next}
use Rattle.tag_file.proofs.FoundRecords.{found_number}
use Rattle.pool_loader_spec.specs.Pooling.{united_with, pooled}
use Rattle.tag_index.specs.Index.{table_of}
use Rattle.tag_loader.specs.declared.record_items.Filled.{Filled}
use Rattle.tag_loader.specs.record_items.Marks.{Unmarked, TagsKnown}
use Rattle.pool_scan.specs.right_slots.Slots.{number_slot, AtSlots, HasSlot}
use Rattle.pool_scan.proofs.right_slots.Counted.{slot_below}
use Rattle.pool_scan.proofs.right_slots.Found.{noted_member}
use Rattle.pool_scan.proofs.right_slots.Putting.{at_slots_put}
use Rattle.pool_fill.specs.own_sets.Own.{length_by, place_word, RoomForOwn, OwnFilled}
use Rattle.pool_fill.specs.Pool.{PoolFillReady}
use Rattle.pool_fill.proofs.Laying.{Block}
use Rattle.pool_fill.proofs.SetPlacing.{SetPlacing, placing_bound, placing_room, placing_number, placing_end}
use Rattle.pool_fill.proofs.SetPlacing.{placing_next}
use Rattle.pool_fill.proofs.Unions.{keep_around, part_of, part_none, part_fits}
use Rattle.pool_fill.proofs.PooledSets.{is_new, united_held, own_held, length_told}
use Rattle.pool_fill.proofs.FirstWalk.{block_of, start_of, walk_word, walk_same, FirstWalk}
use Rattle.tag_index.specs.declared.TagIndex.{TagIndex}

module _ {first second : List ℕ} {index : TagIndex} {n : ℕ} {ranks used counts slots₀ numbers₀ ends₀ items₀ : List ℕ}
    (ready : PoolFillReady first second index n ranks used counts slots₀ numbers₀ ends₀ items₀)
    {slots numbers ends items marks : List ℕ} {done : Filled} {at : ℕ}
    (w : FirstWalk first second (table_of index n) used slots₀ numbers₀ ends₀ items₀
    slots numbers ends items marks done at)
    {kind : Side} {x c p next : ℕ} (e : read_at first at ≡ Record kind x c p next) (right : same_side Right kind ≡ true)
    (byte : (i : ℕ) → get_or first i 0 < 256) where
  abbrev table : List ℕ
  table = table_of index n

  abbrev firsts : List TagRecord
  firsts = records first

  abbrev seconds : List TagRecord
  seconds = of_side Right (records second)

  abbrev new_numbers : List ℕ
  new_numbers = map (λ (r : TagRecord). r.number) (keep (is_new firsts) seconds)

  abbrev new_sets : List (List ℕ)
  new_sets = map (λ (r : TagRecord). items_of table r.tags) (keep (is_new firsts) seconds)

  abbrev this : TagRecord
  this = record { side = kind; number = x; tags = tags_at c first p }

  abbrev rest : List TagRecord
  rest = records_at first next

  opened : records_at first at ≡ this ∷ rest
  opened = records_next first at kind x c p next e

  here : firsts ≡ w.passed ++ (this ∷ rest)
  here = w.split ∙ ap (λ (l : List TagRecord). w.passed ++ l) opened

  abbrev whole : List ℕ
  whole = part_of table seconds this

  abbrev own : List ℕ
  own = items_of table (tags_at c first p)

  held : (y : ℕ) → memb y (united_with seconds this).tags ≡ true → memb y table ≡ true
  held y m = ready.held y (united_held firsts (records second) w.passed this rest here y m)

  small : x < half_words
  small = read_number first at e byte

  left_numbers_lem : map (λ r. r.number) (of_side Right (records_at first at)) ++ new_numbers
      ≡ x ∷ (map (λ r. r.number) (of_side Right rest) ++ new_numbers)
  unfolding keep
  left_numbers_lem =
      ap (λ (l : List TagRecord). map (λ (r : TagRecord). r.number) l ++ new_numbers)
      (ap (of_side Right) opened ∙ keep_around (λ r. same_side Right r.side) [] this rest right)

  left_sets : map (part_of table seconds) (of_side Right (records_at first at)) ++ new_sets
      ≡ whole ∷ (map (part_of table seconds) (of_side Right rest) ++ new_sets)
  unfolding keep
  left_sets =
      ap (λ (l : List TagRecord). map (part_of table seconds) l ++ new_sets)
      (ap (of_side Right) opened ∙ keep_around (λ r. same_side Right r.side) [] this rest right)

  abbrev later_numbers : List ℕ
  later_numbers = map (λ (r : TagRecord). r.number) (of_side Right rest) ++ new_numbers

  abbrev later : List (List ℕ)
  later = map (part_of table seconds) (of_side Right rest) ++ new_sets

  pub own_known : TagsKnown first index n ranks p c
  own_known =
      record {
        sorted = ready.sorted;
        ranked = ready.ranked;
        small = ready.small;
        inside = omega (arith, read_past first at e, read_within first at e);
        known = λ k h.
            let y = tag_at first (past_tags p k) in
            held y (own_held seconds this y (memb-tags_at c first p k h));
      }

  noted_here : member used x ≡ true
  noted_here = noted_member ready.noted w.passed this rest here right small

  pub own_slot : HasSlot used counts slots x
  own_slot =
      record {
        counted = ready.counted;
        within = omega (arith, slot_below used ready.noted x small noted_here, w.long);
      }

  -- the word of its slot tells its length
  told : length_by (get_or slots (number_slot used x) 0) (length own) ≡ length whole
  told =
      ap (λ (word : ℕ). length_by word (length own))
      (w.words w.passed this rest here right
      ∙ ap (λ (b : Bool). cond b (place_word (start_of table seconds w.passed) (length own)) (get_or slots₀ (number_slot used x) 0))
      (le-ltb (length w.passed) (length w.passed) (omega arith))
      ∙ ready.words w.passed this rest here right)
      ∙ length_told table ready.sorted.rises firsts (records second) ready.short w.passed this rest here held

  fits : length own ≤ length whole
  fits = omega (arith, ap length (part_none table this), part_fits table seconds this)

  pub own_room : RoomForOwn done.sets done.entries (get_or slots (number_slot used x) 0) own numbers ends items
  own_room =
      let bound = placing_bound w.placing whole later left_sets in
      record {
        for_number = omega (arith, placing_number w.placing x later_numbers left_numbers_lem);
        for_end = omega (arith, placing_end w.placing whole later left_sets);
        for_items = omega (arith, placing_room w.placing whole later left_sets, fits);
        small = omega (arith, bound, fits, ready.few);
        few = omega (arith, bound, told, ready.few);
      }

  -- the right sets so far, with this
  grown : map (block_of table seconds []) (of_side Right w.passed) ++ (block_of table seconds [] this ∷ [])
      ≡ map (block_of table seconds []) (of_side Right (w.passed ++ (this ∷ [])))
  unfolding keep
  grown =
      sym (map-append (block_of table seconds []) (of_side Right w.passed) (this ∷ []))
      ∙ ap (map (block_of table seconds []))
      (sym (keep_around (λ r. same_side Right r.side) w.passed this [] right))

  -- where it begins
  begins : done.entries ≡ start_of table seconds w.passed
  begins =
      w.placing.past
      ∙ ap (λ (l : List (List ℕ)). length (flatten l))
      (map-map (λ (b : Block). b.whole) (block_of table seconds []) (of_side Right w.passed))

  pub first_walk_own : {r : Filled} {slots' numbers' ends' items' marks' : List ℕ}
      → OwnFilled done.sets done.entries x (number_slot used x) own slots numbers ends items r slots' numbers' ends' items'
      → Unmarked marks'
      → FirstWalk first second table used slots₀ numbers₀ ends₀ items₀ slots' numbers' ends' items' marks' r next
  first_walk_own {r} {slots'} {numbers'} {ends'} {items'} {marks'} o none =
      record {
        passed = w.passed ++ (this ∷ []);
        split = here ∙ sym (append_assoc w.passed (this ∷ []) rest);
        placing =
            subst (λ (l : List Block). SetPlacing (numbers_of Right (pooled firsts (records second)))
            (sets_of_side Right table (pooled firsts (records second))) numbers₀ ends₀ items₀ numbers' ends' items' r
            l later_numbers later) grown
            (placing_next w.placing x later_numbers
            (block_of table seconds [] this) later left_numbers_lem left_sets (part_fits table seconds this)
            o.put_number (rw told at o.put_end)
            (o.put_items ∙ ap (seq.sets items done.entries) (sym (part_none table this)))
            (o.past ∙ ap (λ (k : ℕ). done.entries + k) told));
        words =
            subst (λ (l : List ℕ). AtSlots (walk_word table seconds used slots₀ (length (w.passed ++ (this ∷ [])))) firsts used l)
            (sym o.put_slot)
            (at_slots_put firsts used slots (walk_word table seconds used slots₀ (length w.passed))
            (walk_word table seconds used slots₀ (length (w.passed ++ (this ∷ [])))) ready.once ready.noted
            (λ b s a f. found_number first byte b s a f) w.long w.words w.passed this rest
            (place_word done.entries (length own)) here right
            (ap (λ (b : Bool). cond b (place_word (start_of table seconds w.passed) (length own))
            (get_or slots₀ (number_slot used x) 0))
            (lt-ltb (length w.passed) (length (w.passed ++ (this ∷ []))) (omega (arith, length-append w.passed (this ∷ []))))
            ∙ ap (λ (k : ℕ). place_word k (length own)) (sym begins))
            (λ b s a f right-s differs.
            walk_same table seconds used slots₀ firsts w.passed this rest here b s a f
            (λ same. differs (ap (λ (q : TagRecord). q.number) same))));
        long = ap length o.put_slot ∙ length-set slots (number_slot used x) (place_word done.entries (length own)) ∙ w.long;
        unmarked = none;
      }
