-- `pool_scan::union::unite` meets its contract: by whether the first file has the number.
use Rattle.std.proofs.Common.{◌≡◌, ℕ, ◌+◌, ◌<◌, true, get_or, set, sym, refl, ap, ◌∙◌, subst, arith}
use borrow.Author.Tests.{not-true, not-false}
use Rattle.lists.proofs.Bools.{true-false}
use Rattle.sets.specs.Limits.{max_sets}
use Rattle.pool_scan.specs.right_slots.Slots.{number_slot, pooled_mark}
use Rattle.pool_scan.specs.union.Union.{WholeRecordAt, KnownRecordAt}
use Rattle.tag_index.specs.Index.{table_of}
use Rattle.bit_sets.specs.BitSets.{member}
use Rattle.pool_scan.proofs.union.unite.Goals as goal
use Rattle.pool_scan.proofs.union.unite.Goals.{After-number_slot-slot}

-- the number is the first file's, and its slot has a place
met : (a : After-number_slot-slot) → member a.args.used.now a.args.number ≡ true
met a = sym a.contains.ensures ∙ not-false _ a.if-not-contains.false-raw

slot_small : (a : After-number_slot-slot) → a.number_slot-slot.result < max_sets
slot_small a = let below = a.requires.slot (met a) in omega (arith, below, a.number_slot-slot.ensures)

known : (a : After-number_slot-slot)
    → let s = a.args in
    KnownRecordAt s.first.now (get_or s.slots.now a.number_slot-slot.result 0) (table_of s.index.now s.n)
known a =
    let s = a.args in
    subst (λ (k : ℕ). KnownRecordAt s.first.now (get_or s.slots.now k 0) (table_of s.index.now s.n))
    (sym a.number_slot-slot.ensures) (a.requires.there (met a))

there_at : (a : After-number_slot-slot) {count start : ℕ}
    → let s = a.args in
    WholeRecordAt s.first.now (get_or s.slots.now (number_slot s.used.now s.number) 0) count start
    → WholeRecordAt s.first.now (get_or s.slots.now a.number_slot-slot.result 0) count start
there_at a {count} {start} there =
    let s = a.args in
    subst (λ (k : ℕ). WholeRecordAt s.first.now (get_or s.slots.now k 0) count start) (sym a.number_slot-slot.ensures) there

pub returns-then-not-contains : goal.returns-then-not-contains
returns-then-not-contains c =
    let out = sym c.contains.ensures ∙ not-true _ c.if-not-contains.true-raw in
    record {
      told = c.add_alone.ensures.told ∙ sym out;
      alone = λ e. c.add_alone.ensures.taken;
      kept = λ e. refl;
      met = λ e. true-false e out;
      noted = λ e. true-false e out;
    }

pub offset_bounds-slots-slot : goal.offset_bounds-slots-slot
offset_bounds-slots-slot c =
    let below = slot_small (goal.at.offset_bounds-slots-slot c).After-number_slot-slot in omega (arith, below)

pub bounds-slots-slot : goal.bounds-slots-slot
bounds-slots-slot c =
    let below = slot_small (goal.at.bounds-slots-slot c).After-number_slot-slot in omega (arith, below, c.requires.size)

pub overflow_cast-at : goal.overflow_cast-at
overflow_cast-at c =
    omega (arith, (c.type_inv.slots c.number_slot-slot.result).fits)

pub add_both-united-requires : goal.add_both-united-requires
add_both-united-requires c =
    record {
      index_ready = c.requires.index_ready;
      tags_inside = c.requires.tags_inside;
      known_record_at = known (goal.at.add_both-united-requires c).After-number_slot-slot;
    }

pub offset_bounds-slots-slot-2 : goal.offset_bounds-slots-slot-2
offset_bounds-slots-slot-2 c =
    let below = slot_small (goal.at.offset_bounds-slots-slot-2 c).After-number_slot-slot in omega (arith, below)

pub bounds-slots-slot-2 : goal.bounds-slots-slot-2
bounds-slots-slot-2 c =
    let below = slot_small (goal.at.bounds-slots-slot-2 c).After-number_slot-slot in omega (arith, below, c.requires.size)

pub returns : goal.returns
returns c =
    record {
      told = c.add_both-united.ensures.told ∙ sym (met (goal.at.returns c).After-number_slot-slot);
      alone = λ e. true-false (met (goal.at.returns c).After-number_slot-slot) e;
      kept = λ e. true-false (met (goal.at.returns c).After-number_slot-slot) e;
      met = λ e count start there. c.add_both-united.ensures.taken count start (there_at (goal.at.returns c).After-number_slot-slot there);
      noted = λ e. ap (λ (k : ℕ). set c.args.slots.now k (pooled_mark + c.add_both-united.result.all)) c.number_slot-slot.ensures;
    }
