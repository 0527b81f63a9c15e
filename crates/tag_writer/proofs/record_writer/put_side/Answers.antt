use mathlib.Core.Path.{◌≡◌, refl, sym, ap, ◌∙◌}
use mathlib.Core.List.{List, []}
use Prim.Native.Nat.{ℕ, ◌+◌, ◌-◌, ◌/◌, ◌≤◌, ◌<◌}
use native.Mathlib.Omega.{arith}
use lib.ListN.{length, drop, get_or, length-append, drop_of_length-le}
use Rattle.sets.specs.Collections.{between, sets_from}
use Rattle.sets.specs.declared.Side.{Side}
use Rattle.sets.proofs.Between.{length-between}
use Rattle.sets.proofs.Good.{GoodSet, good_step, good_next}
use Rattle.tag_file.specs.Format.{tag_length, record_length, record_bytes}
use lib.Seq.{sets, length-sets}
use Rattle.tag_writer_spec.specs.Inner.{ItemsFit, GoodSide}
use Rattle.tag_writer_spec.specs.Writer.{item_tags, records_of}
use Rattle.lists.proofs.Filling.{sets_then}
use Rattle.tag_writer_spec.proofs.Sides.{fit_items, length_record, records_next}
use Rattle.tag_writer.proofs.record_writer.put_side.Invariants.{PuttingRecords, rest}
use Rattle.tag_writer.proofs.record_writer.put_side.Goals as goal
use Rattle.tag_writer.proofs.record_writer.put_side.Goals.{In-loop-k}

putting_start : (side : Side) (tags numbers ends items file : List ℕ) (at : ℕ) → GoodSide tags numbers ends items
    → PuttingRecords side tags numbers ends items file at file 0 0 at
putting_start side tags numbers ends items file at so =
    record { within = omega arith; long = refl; good = so.good; place = refl; together = refl }

-- what a turn has: the set at place k is not bad, its tags are in the table, and its record has room
record Turn (tags items file : List ℕ) (k start end to : ℕ) : Type 0 where
  set : GoodSet (length tags / tag_length) k start end items
  fit : ItemsFit tags (between start end items)
  room : to + record_length (end - start) ≤ length file

module _ (side : Side) (tags numbers ends items file₀ : List ℕ) (at : ℕ) (file : List ℕ) (k start to : ℕ)
    (whole : GoodSide tags numbers ends items)
    (fits : at + length (rest side tags numbers ends items 0 0) ≤ length file₀)
    (more : k < length ends) (so : PuttingRecords side tags numbers ends items file₀ at file k start to) where
  -- the length of the record at place k
  size : GoodSet (length tags / tag_length) k start (get_or ends k 0) items
      → length (record_bytes side (get_or numbers k 0) (item_tags tags (between start (get_or ends k 0) items)))
      ≡ record_length (get_or ends k 0 - start)
  size here =
      length_record side (get_or numbers k 0) tags (between start (get_or ends k 0) items)
      ∙ rw (length-between start (get_or ends k 0) items here.within)

  split : length (rest side tags numbers ends items k start)
      ≡ length (record_bytes side (get_or numbers k 0) (item_tags tags (between start (get_or ends k 0) items)))
      + length (rest side tags numbers ends items (k + 1) (get_or ends k 0))
  split = rw (records_next side tags numbers ends items k start more whole.numbered, length-append)

  turn : Turn tags items file k start (get_or ends k 0) to
  turn =
      let here = good_step (length tags / tag_length) ends items k start more so.good in
      let n = size here in
      let l = split in
      record {
        set = here;
        fit = fit_items tags items k start (get_or ends k 0) here;
        room = omega (arith, so.place, so.long);
      }

  putting-step : (file' : List ℕ) (size' : ℕ)
      → file' ≡ sets file to (record_bytes side (get_or numbers k 0) (item_tags tags (between start (get_or ends k 0) items)))
      → size' ≡ record_length (get_or ends k 0 - start)
      → PuttingRecords side tags numbers ends items file₀ at file' (k + 1) (get_or ends k 0) (to + size')
  putting-step file' size' e long =
      let n = size turn.set ∙ sym long in
      let l = split in
      let bytes = record_bytes side (get_or numbers k 0) (item_tags tags (between start (get_or ends k 0) items)) in
      record {
        within = omega arith;
        long = ap length e ∙ length-sets file to bytes ∙ so.long;
        good = good_next (length tags / tag_length) ends items k start more so.good;
        place = omega (arith, so.place);
        together =
            rw e
            (sym (sets_then file to bytes (rest side tags numbers ends items (k + 1) (get_or ends k 0)) _ n)
            ∙ ap (sets file to) (sym (records_next side tags numbers ends items k start more whole.numbered)) ∙ so.together);
      }

putting_end : (side : Side) (tags numbers ends items file₀ : List ℕ) (at : ℕ) (file : List ℕ) (k start to : ℕ)
    → GoodSide tags numbers ends items → length ends ≤ k → PuttingRecords side tags numbers ends items file₀ at file k start to
    → file ≡ sets file₀ at (rest side tags numbers ends items 0 0)
unfolding records_of sets_from
putting_end side tags numbers ends items file₀ at file k start to whole done so =
    let none : drop k numbers ≡ [] = drop_of_length-le numbers {i = k} (omega (arith, whole.numbered)) in
    ap (λ (l : List ℕ). sets file to (records_of side tags l (sets_from start (drop k ends) items))) (sym none) ∙ so.together

now_turn : (p : In-loop-k)
    → Turn p.args.tags.now p.args.from.now.sets.items.now p.loop-k.file p.loop-k.k
    p.loop-k.start (get_or p.args.from.now.sets.ends.now p.loop-k.k 0) p.loop-k.to
now_turn p = turn _ _ _ _ _ _ _ _ _ _ _ p.requires.good_side p.requires.in_bounds p.loop-k-test.true p.loop-k.invariant

pub offset_bounds-items-start : goal.offset_bounds-items-start
offset_bounds-items-start c =
    let set = (now_turn (goal.at.offset_bounds-items-start c).In-loop-k).set in omega (arith, set.ordered, set.entries)

pub slice_bounds-put_record-count : goal.slice_bounds-put_record-count
slice_bounds-put_record-count c = (now_turn (goal.at.slice_bounds-put_record-count c).In-loop-k).set.ordered

pub slice_bounds-put_record-start : goal.slice_bounds-put_record-start
slice_bounds-put_record-start c = (now_turn (goal.at.slice_bounds-put_record-start c).In-loop-k).set.ordered

pub slice_bounds-put_record-end : goal.slice_bounds-put_record-end
slice_bounds-put_record-end c = (now_turn (goal.at.slice_bounds-put_record-end c).In-loop-k).set.within

pub put_record-requires : goal.put_record-requires
put_record-requires c =
    let now = now_turn (goal.at.put_record-requires c).In-loop-k in
    let n = length-between c.loop-k.start (get_or c.args.from.now.sets.ends.now c.loop-k.k 0) c.args.from.now.sets.items.now now.set.within in
    record {
      items_fit = now.fit;
      in_bounds = (omega (arith, now.set.short, n), omega (arith, now.room, n));
    }

pub overflow_sub-end : goal.overflow_sub-end
overflow_sub-end c = omega (arith, (now_turn (goal.at.overflow_sub-end c).In-loop-k).set.ordered)

pub record_length-to-requires : goal.record_length-to-requires
record_length-to-requires c = (now_turn (goal.at.record_length-to-requires c).In-loop-k).set.short

pub loop-k-preserved : goal.loop-k-preserved
loop-k-preserved c =
    putting-step _ _ _ _ _ _ _ _ _ _ _ c.requires.good_side c.requires.in_bounds c.loop-k-test.true c.loop-k.invariant _ _
    c.put_record.ensures c.record_length-to.ensures

pub returns : goal.returns
returns c =
    putting_end _ _ _ _ _ _ _ _ _ _ _ c.requires.good_side c.loop-k-test.false c.loop-k.invariant
