use mathlib.Core.Path.{◌≡◌, refl, sym, ◌∙◌}
use mathlib.Core.List.{[]}
use native.Mathlib.Omega.{arith}
use Rattle.tag_file.specs.Reading.{read_at, tags_at}
use Rattle.tag_file.specs.declared.ReadAnswer.TheVariants.{Record}
use Rattle.tag_file.proofs.Ended.{no_records}
use Rattle.tag_file.proofs.RecordLaws.{read_less}
use Rattle.tag_file.proofs.Sides.{told_same, told_not_same}
use Rattle.tag_index.specs.Index.{table_of}
use Rattle.tag_index.proofs.Ids.{sorted_size}
use Rattle.tag_loader.proofs.record_items.Marks.{unmarked_marked}
use Rattle.tag_loader.proofs.fill.Filling.{side_filling_start, filled_numbers, filled_ends, filled_items}
use Rattle.tag_loader.proofs.fill.Filling.{filling_known, filling_wide, filling_items, filling_room, filling_own, filling_other}
use Rattle.tag_loader.proofs.fill.fill_side.Goals as goal
use Rattle.tag_loader.proofs.fill.fill_side.Goals.{In-Record}

-- the record that was read
read : (a : In-Record)
    → read_at a.args.file.now a.loop-kind.at
    ≡ Record a.in-Record.kind a.in-Record.number a.in-Record.count a.in-Record.tags_at a.in-Record.next
read a = sym a.read_record-answer.ensures ∙ a.in-Record.is

pub loop-kind-init : goal.loop-kind-init
loop-kind-init c = side_filling_start c.requires

pub read_record-answer-requires : goal.read_record-answer-requires
read_record-answer-requires c = tt

pub shape_of-numbers-in_default : goal.shape_of-numbers-in_default
shape_of-numbers-in_default c = c.loop-kind.invariant.for_numbers.same

pub shape_of-ends-in_default : goal.shape_of-ends-in_default
shape_of-ends-in_default c = c.loop-kind.invariant.for_ends.same

pub shape_of-items-in_default : goal.shape_of-items-in_default
shape_of-items-in_default c = c.loop-kind.invariant.for_items.same

pub returns-in_default : goal.returns-in_default
returns-in_default c =
    let l = c.loop-kind in
    let read = c.read_record-answer in
    let stop = no_records c.args.file.now l.at read.result (sym read.ensures) c.in_default.not-Record in
    record {
      numbers = filled_numbers l.invariant stop;
      ends = filled_ends l.invariant stop;
      items = filled_items l.invariant stop;
    }

pub loop-kind-smaller-then-ne : goal.loop-kind-smaller-then-ne
loop-kind-smaller-then-ne c = read_less _ _ (read (goal.at.loop-kind-smaller-then-ne c).In-Record)

pub loop-kind-preserved-then-ne : goal.loop-kind-preserved-then-ne
loop-kind-preserved-then-ne c =
    filling_other c.loop-kind.invariant (read (goal.at.loop-kind-preserved-then-ne c).In-Record)
    (told_not_same _ _ c.ne.ensures c.if-ne.true)

pub slice_bounds-mark_tags-end : goal.slice_bounds-mark_tags-end
slice_bounds-mark_tags-end c = sym c.loop-kind.invariant.unmarked.wide

pub mark_tags-requires : goal.mark_tags-requires
unfolding tags_at
mark_tags-requires c =
    let a = c.args in
    record {
      tags_known = filling_known c.loop-kind.invariant (read (goal.at.mark_tags-requires c).In-Record) c.requires.sorted c.requires.ranked refl c.requires.small
          (told_same _ _ c.ne.ensures c.if-ne.false);
      some_marked = record {
        done = [];
        marked = unmarked_marked (table_of a.index.now a.n) c.loop-kind.invariant.unmarked;
      };
    }

pub slice_bounds-put_record-end : goal.slice_bounds-put_record-end
slice_bounds-put_record-end c =
    sym (filling_wide c.loop-kind.invariant (read (goal.at.slice_bounds-put_record-end c).In-Record) c.mark_tags.ensures)

pub put_record-done-requires : goal.put_record-done-requires
put_record-done-requires c =
    let l = c.loop-kind in
    record {
      marks_len = filling_wide l.invariant (read (goal.at.put_record-done-requires c).In-Record) c.mark_tags.ensures;
      room_for_one = rw (filling_items l.invariant (read (goal.at.put_record-done-requires c).In-Record) c.mark_tags.ensures (omega (arith, sorted_size c.requires.sorted, c.requires.small)))
          (filling_room l.invariant (read (goal.at.put_record-done-requires c).In-Record) c.requires.few (told_same _ _ c.ne.ensures c.if-ne.false));
    }

pub loop-kind-smaller : goal.loop-kind-smaller
loop-kind-smaller c =
    read_less _ _ (read (goal.at.loop-kind-smaller c).In-Record)

pub loop-kind-preserved : goal.loop-kind-preserved
loop-kind-preserved c =
    let l = c.loop-kind in
    let same = filling_items l.invariant (read (goal.at.loop-kind-preserved c).In-Record) c.mark_tags.ensures
    (omega (arith, sorted_size c.requires.sorted, c.requires.small)) in
    filling_own l.invariant (read (goal.at.loop-kind-preserved c).In-Record) (told_same _ _ c.ne.ensures c.if-ne.false) (rw same at c.put_record-done.ensures.lists) c.put_record-done.ensures.marks
