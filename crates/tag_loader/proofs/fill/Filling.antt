-- The second pass over a side: its invariant, with its start, step and end. It says what is left: of each list what is written
-- and what the records still to come give are together what is wanted.
use mathlib.Core.Path.{◌≡◌, refl, ap, ◌∙◌}
use mathlib.Core.List.{List, [], ◌∷◌, ◌++◌, flatten}
use mathlib.Core.Bool.{Bool, true, false}
use Prim.Native.Nat.{ℕ, ◌+◌, ◌≤◌}
use native.Mathlib.Omega.{arith}
use lib.ListN.{length, replicate, length-append}
use Rattle.lists.specs.Lists.{onto, keep, memb}
use Rattle.lists.specs.Writing.{Put}
use Rattle.lists.proofs.Bools.{or_left, or_right}
use Rattle.lists.proofs.Membership.{memb_append}
use Rattle.lists.proofs.Writing.{Writing, writing_start, writing_room, writing_step, writing_end, written_whole}
use Rattle.bit_sets.specs.BitSets.{members}
use Rattle.sets.specs.Limits.{max_items, max_entries}
use Rattle.sets.specs.Lent.{filled_over}
use Rattle.sets.specs.declared.Side.{Side}
use Rattle.tag_file.specs.Format.{tag_at}
use Rattle.tag_file.specs.Reading.{read_at, past_tags, tags_at}
use Rattle.tag_file.specs.Records.{TagRecord, same_side, records_at, records, of_side, all_tags, items_of, sets_of_side}
use Rattle.tag_file.specs.Loading.{numbers_of, ends_from}
use Rattle.tag_file.specs.declared.ReadAnswer.TheVariants.{Record}
use Rattle.tag_file.proofs.RecordLaws.{memb-tags_at, read_past, read_within, records_next}
use Rattle.tag_index.specs.Index.{table_of, Sorted, Ranked}
use Rattle.tag_loader.specs.record_items.Marks.{mark_words, Unmarked, MarkedMore, TagsKnown, RoomForOne, OneFilled}
use Rattle.tag_loader.specs.declared.record_items.Filled.{Filled}
use Rattle.tag_loader.proofs.record_items.Marks.{unmarked_zeros, more_fresh, marked_items}
use Rattle.tag_loader.specs.fill.Fill.{FillReady}
use Rattle.tag_loader.proofs.fill.Runs.{flatten_one, numbers_cons, sets_cons, flatten-onto, ends_onto}
use Rattle.tag_index.specs.declared.TagIndex.{TagIndex}

pub record SideFilling (file : List ℕ) (side : Side) (table numbers₀ ends₀ items₀ : List ℕ)
    (marks numbers ends items : List ℕ) (done : Filled) (at : ℕ) : Type 0 where
  pub for_numbers : Writing numbers₀ 0 (numbers_of side (records file)) numbers done.sets (numbers_of side (records_at file at))
  pub for_ends : Writing ends₀ 0 (ends_from 0 (sets_of_side side table (records file))) ends done.sets
      (ends_from done.entries (sets_of_side side table (records_at file at)))
  pub for_items : Writing items₀ 0 (flatten (sets_of_side side table (records file))) items done.entries
      (flatten (sets_of_side side table (records_at file at)))
  pub held : (y : ℕ) → memb y (all_tags (of_side side (records_at file at))) ≡ true → memb y table ≡ true
  pub unmarked : Unmarked marks

pub side_filling_start : {file : List ℕ} {index : TagIndex} {n : ℕ} {ranks : List ℕ} {side : Side} {numbers ends items : List ℕ}
    → FillReady file index n ranks side numbers ends items
    → SideFilling file side (table_of index n) numbers ends items (replicate mark_words 0) numbers ends items
    (record { sets = 0; entries = 0 }) 0
side_filling_start {file} {index} {n} {ranks} {side} {numbers} {ends} {items} r =
    let sets = sets_of_side side (table_of index n) (records file) in
    record {
      for_numbers = writing_start numbers 0 (numbers_of side (records file)) (omega (arith, r.for_numbers));
      for_ends = writing_start ends 0 (ends_from 0 sets) (omega (arith, r.for_ends));
      for_items = writing_start items 0 (flatten sets) (omega (arith, r.for_items));
      held = r.held;
      unmarked = unmarked_zeros mark_words refl;
    }

module _ {file : List ℕ} {side : Side} {table numbers₀ ends₀ items₀ marks numbers ends items : List ℕ} {done : Filled} {at : ℕ}
    (f : SideFilling file side table numbers₀ ends₀ items₀ marks numbers ends items done at) where
  module _ (stop : records_at file at ≡ []) where
    pub filled_numbers : numbers ≡ filled_over (numbers_of side (records file)) numbers₀
    unfolding keep
    filled_numbers = written_whole (writing_end f.for_numbers (ap (numbers_of side) stop)) (omega (arith, f.for_numbers.room))

    pub filled_ends : ends ≡ filled_over (ends_from 0 (sets_of_side side table (records file))) ends₀
    unfolding keep ends_from
    filled_ends =
        let end = ap (λ (l : List TagRecord). ends_from done.entries (sets_of_side side table l)) stop in
        written_whole (writing_end f.for_ends end) (omega (arith, f.for_ends.room))

    pub filled_items : items ≡ filled_over (flatten (sets_of_side side table (records file))) items₀
    unfolding keep flatten
    filled_items =
        let end = ap (λ (l : List TagRecord). flatten (sets_of_side side table l)) stop in
        written_whole (writing_end f.for_items end) (omega (arith, f.for_items.room))

  -- the record here, of this side or the other
  module _ {kind : Side} {n c p next : ℕ} (e : read_at file at ≡ Record kind n c p next) where
    abbrev this : TagRecord
    this = record { side = kind; number = n; tags = tags_at c file p }

    abbrev new : List ℕ
    new = items_of table (tags_at c file p)

    rest : records_at file at ≡ this ∷ records_at file next
    rest = records_next file at kind n c p next e

    numbers_next : numbers_of side (records_at file at) ≡ onto (same_side side kind) n [] ++ numbers_of side (records_at file next)
    numbers_next = ap (numbers_of side) rest ∙ numbers_cons side this (records_at file next)

    abbrev to_come : List (List ℕ)
    to_come = sets_of_side side table (records_at file next)

    sets_next : sets_of_side side table (records_at file at) ≡ onto (same_side side kind) new [] ++ to_come
    sets_next = ap (sets_of_side side table) rest ∙ sets_cons side this (records_at file next) table

    ends_next : ends_from done.entries (sets_of_side side table (records_at file at))
        ≡ onto (same_side side kind) (done.entries + length new) []
        ++ ends_from (done.entries + length (flatten (onto (same_side side kind) new []))) to_come
    ends_next =
        ap (ends_from done.entries) sets_next ∙ ends_onto (same_side side kind) new to_come done.entries

    items_next : flatten (sets_of_side side table (records_at file at)) ≡ flatten (onto (same_side side kind) new []) ++ flatten to_come
    items_next = ap flatten sets_next ∙ flatten-onto (same_side side kind) new to_come

    abbrev later : List TagRecord
    later = of_side side (records_at file next)

    side_next : of_side side (records_at file at) ≡ onto (same_side side kind) this later
    unfolding keep
    side_next = ap (of_side side) rest

    -- the tags of later records, and of this one where it is of the side, are known
    held_later : (y : ℕ) → memb y (all_tags later) ≡ true → memb y table ≡ true
    unfolding all_tags
    held_later y m =
        f.held y (ap (λ (rs : List TagRecord). memb y (all_tags rs)) side_next ∙ by_mine (same_side side kind))
      where
        by_mine : (b : Bool) → memb y (all_tags (onto b this later)) ≡ true
        by_mine true =
            memb_append y (tags_at c file p) (all_tags later) ∙ or_right (memb y (tags_at c file p)) (memb y (all_tags later)) m
        by_mine false = m

    held_here : same_side side kind ≡ true → (y : ℕ) → memb y (tags_at c file p) ≡ true → memb y table ≡ true
    unfolding all_tags
    held_here mine y m =
        f.held y (ap (λ (rs : List TagRecord). memb y (all_tags rs)) (side_next ∙ ap (λ (b : Bool). onto b this later) mine)
        ∙ memb_append y (tags_at c file p) (all_tags later)
        ∙ or_left (memb y (tags_at c file p)) (memb y (all_tags later)) m)

    pub filling_known : {index : TagIndex} {m : ℕ} {ranks : List ℕ} → Sorted index m → Ranked m index.ids ranks
        → table_of index m ≡ table → m ≤ max_items → same_side side kind ≡ true
        → TagsKnown file index m ranks p c
    filling_known sorted ranked same small mine =
        record {
          sorted = sorted;
          ranked = ranked;
          small = small;
          inside = omega (arith, read_past file at e, read_within file at e);
          known = λ k h. let x = tag_at file (past_tags p k) in ap (memb x) same ∙ held_here mine x (memb-tags_at c file p k h);
        }

    -- the items of the record are those of its tags that were marked
    module _ {got : List ℕ} (more : MarkedMore table (tags_at c file p) marks got) where
      pub filling_wide : length got ≡ mark_words
      filling_wide = (more_fresh f.unmarked more).wide

      pub filling_items : length table ≤ max_items → members got ≡ new
      filling_items small = marked_items (more_fresh f.unmarked more) small

    pub filling_room : length (flatten (sets_of_side side table (records file))) ≤ max_entries → same_side side kind ≡ true
        → RoomForOne done.sets done.entries new numbers ends items
    filling_room few mine =
        let a = writing_room f.for_numbers (n ∷ []) (numbers_of side (records_at file next)) (rw mine at numbers_next) in
        let b = writing_room f.for_ends ((done.entries + length new) ∷ [])
        (ends_from (done.entries + length (flatten (new ∷ []))) to_come) (rw mine at ends_next) in
        let d = writing_room f.for_items (flatten (new ∷ [])) (flatten to_come) (rw mine at items_next) in
        let g = ap length (rw mine at items_next) in
        record {
          for_number = omega (arith, a);
          for_end = omega (arith, b);
          for_items = omega (arith, d, ap length (flatten_one new));
          few = omega (arith, f.for_items.total, g, length-append (flatten (new ∷ [])) (flatten to_come), ap length (flatten_one new));
        }

    -- what is written where the record is of the side or not
    filling_by : (mine : Bool) → same_side side kind ≡ mine → {r : Filled} {marks' numbers' ends' items' : List ℕ}
        → Put numbers done.sets (onto mine n []) r.sets numbers'
        → Put ends done.sets (onto mine (done.entries + length new) []) r.sets ends'
        → Put items done.entries (flatten (onto mine new [])) r.entries items'
        → Unmarked marks' → SideFilling file side table numbers₀ ends₀ items₀ marks' numbers' ends' items' r next
    filling_by mine is {r} put_number put_end put_items none =
        record {
          for_numbers = writing_step f.for_numbers (rw is at numbers_next) put_number;
          for_ends = writing_step f.for_ends (rw (is, ← put_items.past) at ends_next) put_end;
          for_items = writing_step f.for_items (rw is at items_next) put_items;
          held = held_later;
          unmarked = none;
        }

    pub filling_own : same_side side kind ≡ true → {r : Filled} {marks' numbers' ends' items' : List ℕ}
        → OneFilled done.sets done.entries n new numbers ends items r numbers' ends' items'
        → Unmarked marks' → SideFilling file side table numbers₀ ends₀ items₀ marks' numbers' ends' items' r next
    filling_own is o none = filling_by true is o.put_number o.put_end (rw flatten_one o.put_items) none

    pub filling_other : same_side side kind ≡ false → SideFilling file side table numbers₀ ends₀ items₀ marks numbers ends items done next
    unfolding flatten
    filling_other is =
        filling_by false is (record { written = refl; past = omega arith }) (record { written = refl; past = omega arith })
        (record { written = refl; past = omega arith }) f.unmarked
