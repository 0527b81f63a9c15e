use mathlib.Core.Path.{◌≡◌, sym, ◌∙◌}
use mathlib.Core.List.{[]}
use mathlib.Core.Bool.{true, false}
use Prim.Native.Nat.{ℕ, ◌<◌}
use native.Mathlib.Omega.{arith}
use lib.ListN.{get_or}
use Rattle.sets.specs.Limits.{max_sets}
use Rattle.sets.specs.declared.Side.TheVariants.{Right}
use Rattle.lists.proofs.Bools.{by_test}
use Rattle.bit_sets.specs.BitSets.{member}
use Rattle.tag_file.specs.Reading.{read_at, tags_at}
use Rattle.tag_file.specs.Records.{same_side}
use Rattle.tag_file.specs.declared.ReadAnswer.TheVariants.{Record}
use Rattle.tag_file.proofs.Ended.{no_records}
use Rattle.tag_file.proofs.Sides.{told_same, told_not_same}
use Rattle.tag_file.proofs.RecordLaws.{read_less}
use Rattle.tag_index.specs.Index.{table_of}
use Rattle.tag_loader.specs.record_items.Marks.{TagsKnown}
use Rattle.tag_loader.proofs.record_items.Marks.{unmarked_marked, more_fresh}
use Rattle.pool_fill.proofs.Fresh.{fresh_wide, fresh_items}
use Rattle.pool_fill.proofs.FirstWalk.{first_walk_start, first_walk_skip}
use Rattle.pool_fill.proofs.OwnSets.{own_known, own_slot, own_room, first_walk_own}
use Rattle.pool_fill.proofs.SecondWalk.{SecondWalk, RightHere, second_walk_start, second_walk_skip, right_here}
use Rattle.pool_fill.proofs.SecondWalk.{walked_numbers, walked_ends, walked_items}
use Rattle.pool_fill.proofs.NewSets.{new_known, new_room, second_walk_new}
use Rattle.pool_fill.proofs.MetSets.{met_known, met_slot, met_standing, second_walk_met}
use Rattle.pool_fill.proofs.fill_right.Goals as goal
use Rattle.pool_fill.proofs.fill_right.Goals.{After-number_slot-slot-then-contains, At-loop-side, At-loop-side-2, Else-contains, Else-ne, Else-ne-2, In-Record, In-Record-answer, Then-contains}

-- the record of the first file that was read, its side, and the file's bytes
read : (a : In-Record)
    → read_at a.args.first.now a.loop-side.at
    ≡ Record a.in-Record.side a.in-Record.number a.in-Record.count a.in-Record.tags_at a.in-Record.next
read a = sym a.read_record-answer.ensures ∙ a.in-Record.is

right_side : (o : Else-ne)
    → same_side Right o.in-Record.side ≡ true
right_side o =
    told_same o.in-Record.side Right o.ne.ensures o.if-ne.false

bytes : (a : At-loop-side) (i : ℕ) → get_or a.args.first.now i 0 < 256
bytes a i = (a.type_inv.first i).fits

-- the walk over the second file, from the lists at the function's start on
second_walk : (a : At-loop-side-2)
    → let s = a.args in
    let l = a.loop-side-2 in
    SecondWalk s.first.now s.second.now (table_of s.index.now s.n) s.used.now
    s.numbers.now s.ends.now s.items.now a.loop-side.slots
    l.numbers l.ends l.items l.marks l.done l.on
second_walk a =
    let s = a.args in
    let got = a.read_record-answer in
    a.loop-side-2.invariant s.numbers.now s.ends.now s.items.now
    (second_walk_start a.loop-side.invariant
    (no_records s.first.now a.loop-side.at got.result (sym got.ensures) a.in_default.not-Record))

-- the same of the second file
read_second : (a : In-Record-answer)
    → read_at a.args.second.now a.loop-side-2.on
    ≡ Record a.in-Record-answer.side a.in-Record-answer.number a.in-Record-answer.count a.in-Record-answer.tags_at a.in-Record-answer.next
read_second a = sym a.read_record-answer-in-loop-side-2.ensures ∙ a.in-Record-answer.is

second_right_side : (o : Else-ne-2)
    → same_side Right o.in-Record-answer.side ≡ true
second_right_side o =
    told_same o.in-Record-answer.side Right o.ne-in-loop-side-2.ensures o.if-ne-2.false

second_bytes : (a : At-loop-side-2) (i : ℕ) → get_or a.args.second.now i 0 < 256
second_bytes a i =
    (a.type_inv.second i).fits

-- the index has the tags of a right set's record
tags_known_here : (own : Else-ne)
    → let a = own.args in
    TagsKnown a.first.now a.index.now a.n a.ranks.now own.in-Record.tags_at own.in-Record.count
tags_known_here own =
    own_known own.requires own.loop-side.invariant (read (goal.at.Else-ne own).In-Record) (right_side own) (bytes (goal.at.Else-ne own).At-loop-side)

-- the same of the second file: the record, and its tags
right_there : (own : Else-ne-2)
    → let second = own.args.second.now in
    RightHere second (second_walk (goal.at.Else-ne-2 own).At-loop-side-2).seen own.loop-side-2.on own.in-Record-answer.count own.in-Record-answer.tags_at own.in-Record-answer.next
    (record { side = own.in-Record-answer.side; number = own.in-Record-answer.number; tags = tags_at own.in-Record-answer.count second own.in-Record-answer.tags_at })
right_there own =
    right_here own.requires (second_walk (goal.at.Else-ne-2 own).At-loop-side-2) (read_second (goal.at.Else-ne-2 own).In-Record-answer) (second_right_side own) (second_bytes (goal.at.Else-ne-2 own).At-loop-side-2)

second_known : (own : Else-ne-2)
    → let a = own.args in
    TagsKnown a.second.now a.index.now a.n a.ranks.now own.in-Record-answer.tags_at own.in-Record-answer.count
second_known own =
    let w = second_walk (goal.at.Else-ne-2 own).At-loop-side-2 in
    by_test (member own.args.used.now own.in-Record-answer.number)
    (met_known own.requires w (right_there own)) (new_known own.requires w (right_there own))

-- whether the first file has its number
there : (met : Then-contains)
    → member met.args.used.now met.in-Record-answer.number ≡ true
there met = sym met.contains.ensures ∙ met.if-contains.true

absent : (missed : Else-contains)
    → member missed.args.used.now missed.in-Record-answer.number ≡ false
absent missed = sym missed.contains.ensures ∙ missed.if-contains.false

-- where it has, its slot is one
slot_below : (found : After-number_slot-slot-then-contains) → found.number_slot-slot-then-contains.result < max_sets
slot_below found =
    let w = second_walk (goal.at.After-number_slot-slot-then-contains found).At-loop-side-2 in
    let slot = met_slot found.requires w (right_there (goal.at.After-number_slot-slot-then-contains found).Else-ne-2) (there (goal.at.After-number_slot-slot-then-contains found).Then-contains) in
    omega (arith, found.number_slot-slot-then-contains.ensures, slot.within, w.long)

pub loop-side-init : goal.loop-side-init
loop-side-init c = first_walk_start c.requires

pub read_record-answer-requires : goal.read_record-answer-requires
read_record-answer-requires c = tt

pub loop-side-smaller-then-ne : goal.loop-side-smaller-then-ne
loop-side-smaller-then-ne c = read_less _ _ (read (goal.at.loop-side-smaller-then-ne c).In-Record)

pub loop-side-preserved-then-ne : goal.loop-side-preserved-then-ne
loop-side-preserved-then-ne c =
    first_walk_skip c.requires c.loop-side.invariant (read (goal.at.loop-side-preserved-then-ne c).In-Record)
    (told_not_same c.in-Record.side Right c.ne.ensures c.if-ne.true)

pub slice_bounds-mark_tags-end : goal.slice_bounds-mark_tags-end
slice_bounds-mark_tags-end c = sym c.loop-side.invariant.unmarked.wide

pub mark_tags-requires : goal.mark_tags-requires
mark_tags-requires c =
    let w = c.loop-side.invariant in
    record {
      tags_known = tags_known_here (goal.at.mark_tags-requires c).Else-ne;
      some_marked = record { done = []; marked = unmarked_marked _ w.unmarked };
    }

pub number_slot-slot-requires : goal.number_slot-slot-requires
number_slot-slot-requires c = c.requires.counted

pub slice_bounds-put_own-end : goal.slice_bounds-put_own-end
slice_bounds-put_own-end c =
    sym (fresh_wide (tags_known_here (goal.at.slice_bounds-put_own-end c).Else-ne) c.loop-side.invariant.unmarked c.mark_tags.ensures)

pub put_own-done-requires : goal.put_own-done-requires
put_own-done-requires c =
    let w = c.loop-side.invariant in
    let items = fresh_items (tags_known_here (goal.at.put_own-done-requires c).Else-ne) w.unmarked c.mark_tags.ensures in
    record {
      marks_len = fresh_wide (tags_known_here (goal.at.put_own-done-requires c).Else-ne) w.unmarked c.mark_tags.ensures;
      slot_in_bounds = rw c.number_slot-slot.ensures (own_slot c.requires w (read (goal.at.put_own-done-requires c).In-Record) (right_side (goal.at.put_own-done-requires c).Else-ne) (bytes (goal.at.put_own-done-requires c).At-loop-side)).within;
      room_for_own = rw (c.number_slot-slot.ensures, items) (own_room c.requires w (read (goal.at.put_own-done-requires c).In-Record) (right_side (goal.at.put_own-done-requires c).Else-ne) (bytes (goal.at.put_own-done-requires c).At-loop-side));
    }

pub loop-side-smaller : goal.loop-side-smaller
loop-side-smaller c = read_less _ _ (read (goal.at.loop-side-smaller c).In-Record)

pub loop-side-preserved : goal.loop-side-preserved
loop-side-preserved c =
    let w = c.loop-side.invariant in
    let items = fresh_items (tags_known_here (goal.at.loop-side-preserved c).Else-ne) w.unmarked c.mark_tags.ensures in
    first_walk_own c.requires w (read (goal.at.loop-side-preserved c).In-Record) (right_side (goal.at.loop-side-preserved c).Else-ne) (bytes (goal.at.loop-side-preserved c).At-loop-side)
    (rw (c.number_slot-slot.ensures, items) at c.put_own-done.ensures.lists) c.put_own-done.ensures.marks

pub loop-side-2-init : goal.loop-side-2-init
loop-side-2-init c = λ n₀ e₀ i₀ w. w

pub read_record-answer-requires-in-loop-side-2 : goal.read_record-answer-requires-in-loop-side-2
read_record-answer-requires-in-loop-side-2 c = tt

pub shape_of-slots-in_default-answer : goal.shape_of-slots-in_default-answer
shape_of-slots-in_default-answer c =
    c.loop-side.invariant.long ∙ sym c.requires.size

pub shape_of-numbers-in_default-answer : goal.shape_of-numbers-in_default-answer
shape_of-numbers-in_default-answer c = (second_walk (goal.at.shape_of-numbers-in_default-answer c).At-loop-side-2).placing.for_numbers.same

pub shape_of-ends-in_default-answer : goal.shape_of-ends-in_default-answer
shape_of-ends-in_default-answer c = (second_walk (goal.at.shape_of-ends-in_default-answer c).At-loop-side-2).placing.for_ends.same

pub shape_of-items-in_default-answer : goal.shape_of-items-in_default-answer
shape_of-items-in_default-answer c = (second_walk (goal.at.shape_of-items-in_default-answer c).At-loop-side-2).placing.same

pub returns-in_default-answer : goal.returns-in_default-answer
returns-in_default-answer c =
    let w = second_walk (goal.at.returns-in_default-answer c).At-loop-side-2 in
    let stop = no_records c.args.second.now c.loop-side-2.on c.read_record-answer-in-loop-side-2.result (sym c.read_record-answer-in-loop-side-2.ensures) c.in_default-answer.not-Record in
    record {
      numbers = walked_numbers c.requires w stop;
      ends = walked_ends c.requires w stop;
      items = walked_items c.requires w stop;
    }

pub loop-side-2-smaller-then-ne-2 : goal.loop-side-2-smaller-then-ne-2
loop-side-2-smaller-then-ne-2 c = read_less _ _ (read_second (goal.at.loop-side-2-smaller-then-ne-2 c).In-Record-answer)

pub loop-side-2-preserved-then-ne-2 : goal.loop-side-2-preserved-then-ne-2
loop-side-2-preserved-then-ne-2 c =
    λ n₀ e₀ i₀ w.
    second_walk_skip c.requires (c.loop-side-2.invariant n₀ e₀ i₀ w) (read_second (goal.at.loop-side-2-preserved-then-ne-2 c).In-Record-answer)
    (told_not_same c.in-Record-answer.side Right c.ne-in-loop-side-2.ensures c.if-ne-2.true)

pub slice_bounds-mark_tags-end-in-loop-side-2 : goal.slice_bounds-mark_tags-end-in-loop-side-2
slice_bounds-mark_tags-end-in-loop-side-2 c = sym (second_walk (goal.at.slice_bounds-mark_tags-end-in-loop-side-2 c).At-loop-side-2).unmarked.wide

pub mark_tags-requires-in-loop-side-2 : goal.mark_tags-requires-in-loop-side-2
mark_tags-requires-in-loop-side-2 c =
    record {
      tags_known = second_known (goal.at.mark_tags-requires-in-loop-side-2 c).Else-ne-2;
      some_marked = record { done = []; marked = unmarked_marked _ (second_walk (goal.at.mark_tags-requires-in-loop-side-2 c).At-loop-side-2).unmarked };
    }

pub contains-requires : goal.contains-requires
contains-requires c =
    omega (arith, (right_there (goal.at.contains-requires c).Else-ne-2).small, c.requires.noted.wide)

pub number_slot-slot-requires-then-contains : goal.number_slot-slot-requires-then-contains
number_slot-slot-requires-then-contains c = c.requires.counted

pub offset_bounds-slots-slot : goal.offset_bounds-slots-slot
offset_bounds-slots-slot c = omega (arith, slot_below (goal.at.offset_bounds-slots-slot c).After-number_slot-slot-then-contains)

pub bounds-slots-slot : goal.bounds-slots-slot
bounds-slots-slot c = omega (arith, slot_below (goal.at.bounds-slots-slot c).After-number_slot-slot-then-contains, (second_walk (goal.at.bounds-slots-slot c).At-loop-side-2).long)

pub overflow_cast-slots : goal.overflow_cast-slots
overflow_cast-slots c = omega (arith, (c.type_inv.slots c.number_slot-slot-then-contains.result).fits)

pub slice_bounds-pool_marked-end : goal.slice_bounds-pool_marked-end
slice_bounds-pool_marked-end c =
    sym (fresh_wide (second_known (goal.at.slice_bounds-pool_marked-end c).Else-ne-2) (second_walk (goal.at.slice_bounds-pool_marked-end c).At-loop-side-2).unmarked c.mark_tags-in-loop-side-2.ensures)

pub pool_marked-requires : goal.pool_marked-requires
pool_marked-requires c =
    let w = second_walk (goal.at.pool_marked-requires c).At-loop-side-2 in
    rw c.number_slot-slot-then-contains.ensures
    (met_standing c.requires w (right_there (goal.at.pool_marked-requires c).Else-ne-2) (there (goal.at.pool_marked-requires c).Then-contains) (more_fresh w.unmarked c.mark_tags-in-loop-side-2.ensures))

pub loop-side-2-smaller-then-contains : goal.loop-side-2-smaller-then-contains
loop-side-2-smaller-then-contains c = read_less _ _ (read_second (goal.at.loop-side-2-smaller-then-contains c).In-Record-answer)

pub loop-side-2-preserved-then-contains : goal.loop-side-2-preserved-then-contains
loop-side-2-preserved-then-contains c =
    λ n₀ e₀ i₀ start.
    let w = c.loop-side-2.invariant n₀ e₀ i₀ start in
    second_walk_met c.requires w (right_here c.requires w (read_second (goal.at.loop-side-2-preserved-then-contains c).In-Record-answer) (second_right_side (goal.at.loop-side-2-preserved-then-contains c).Else-ne-2) (second_bytes (goal.at.loop-side-2-preserved-then-contains c).At-loop-side-2)) (there (goal.at.loop-side-2-preserved-then-contains c).Then-contains)
    (more_fresh w.unmarked c.mark_tags-in-loop-side-2.ensures) (rw c.number_slot-slot-then-contains.ensures at c.pool_marked.ensures.items) c.pool_marked.ensures.marks

pub slice_bounds-put_record-end : goal.slice_bounds-put_record-end
slice_bounds-put_record-end c =
    sym (fresh_wide (second_known (goal.at.slice_bounds-put_record-end c).Else-ne-2) (second_walk (goal.at.slice_bounds-put_record-end c).At-loop-side-2).unmarked c.mark_tags-in-loop-side-2.ensures)

pub put_record-done-requires : goal.put_record-done-requires
put_record-done-requires c =
    let w = second_walk (goal.at.put_record-done-requires c).At-loop-side-2 in
    record {
      marks_len = fresh_wide (second_known (goal.at.put_record-done-requires c).Else-ne-2) w.unmarked c.mark_tags-in-loop-side-2.ensures;
      room_for_one = rw (fresh_items (second_known (goal.at.put_record-done-requires c).Else-ne-2) w.unmarked c.mark_tags-in-loop-side-2.ensures)
          (new_room c.requires w (right_there (goal.at.put_record-done-requires c).Else-ne-2) (absent (goal.at.put_record-done-requires c).Else-contains));
    }

pub loop-side-2-smaller : goal.loop-side-2-smaller
loop-side-2-smaller c = read_less _ _ (read_second (goal.at.loop-side-2-smaller c).In-Record-answer)

pub loop-side-2-preserved : goal.loop-side-2-preserved
loop-side-2-preserved c =
    λ n₀ e₀ i₀ start.
    let w = c.loop-side-2.invariant n₀ e₀ i₀ start in
    second_walk_new c.requires w (right_here c.requires w (read_second (goal.at.loop-side-2-preserved c).In-Record-answer) (second_right_side (goal.at.loop-side-2-preserved c).Else-ne-2) (second_bytes (goal.at.loop-side-2-preserved c).At-loop-side-2)) (absent (goal.at.loop-side-2-preserved c).Else-contains)
    (rw (fresh_items (second_known (goal.at.loop-side-2-preserved c).Else-ne-2) w.unmarked c.mark_tags-in-loop-side-2.ensures) at c.put_record-done.ensures.lists) c.put_record-done.ensures.marks
