use Rattle.std.proofs.Common.{◌≡◌, ℕ, ◌<◌, true, length, get_or, set, sym, ◌∙◌, subst, arith}
use Rattle.sets.specs.declared.Side.TheVariants.{Right}
use Rattle.tag_file.specs.Reading.{read_at}
use Rattle.tag_file.specs.Records.{same_side}
use Rattle.tag_file.specs.declared.ReadAnswer.TheVariants.{Record}
use Rattle.tag_file.proofs.Ended.{no_records}
use Rattle.tag_file.proofs.Sides.{told_same, told_not_same}
use Rattle.tag_file.proofs.RecordLaws.{read_less, read_length}
use Rattle.pool_scan.proofs.right_slots.Walking.{walking_step, walking_within}
use Rattle.pool_scan.proofs.right_slots.SlotPlacing.{SlotPlacing, placing_start, placing_end, placing_other, placing_room, placing_own}
use Rattle.pool_scan.proofs.right_slots.put_places.Goals as goal
use Rattle.pool_scan.proofs.right_slots.put_places.Goals.{After-number_slot-slot, In-Record}

-- the record that was read
read : (a : In-Record)
    → read_at a.args.file.now a.loop-side.at
    ≡ Record a.in-Record.side a.in-Record.number a.in-Record.count a.in-Record.tags_at a.in-Record.next
read a = sym a.read_record-answer.ensures ∙ a.in-Record.is

byte : (a : In-Record) (i : ℕ)
    → get_or a.args.file.now i 0 < 256
byte a i = (a.type_inv.file i).fits

is_right : (c : After-number_slot-slot) → same_side Right c.in-Record.side ≡ true
is_right c =
    told_same c.in-Record.side Right c.ne.ensures c.if-ne.false

room : (c : After-number_slot-slot) → c.number_slot-slot.result < length c.loop-side.slots
room c =
    omega (
      arith,
      c.number_slot-slot.ensures,
      placing_room c.loop-side.invariant (read (goal.at.After-number_slot-slot c).In-Record) c.requires.numbers_noted (byte (goal.at.After-number_slot-slot c).In-Record) (is_right c),
    )

pub loop-side-init : goal.loop-side-init
loop-side-init c =
    let a = c.args in
    placing_start a.file.now a.used.now a.slots.now c.requires.slots_len

pub read_record-answer-requires : goal.read_record-answer-requires
read_record-answer-requires c = tt

pub shape_of-slots-in_default : goal.shape_of-slots-in_default
shape_of-slots-in_default c =
    c.loop-side.invariant.size ∙ sym c.requires.slots_len

pub returns-in_default : goal.returns-in_default
returns-in_default c =
    let told = c.read_record-answer in
    let stop = no_records c.args.file.now c.loop-side.at told.result (sym told.ensures) c.in_default.not-Record in
    record {
      noted = c.requires.numbers_noted;
      counted = c.requires.blocks_counted;
      size = c.loop-side.invariant.size;
      places = placing_end c.loop-side.invariant stop;
    }

pub loop-side-smaller-then-ne : goal.loop-side-smaller-then-ne
loop-side-smaller-then-ne c = read_less _ _ (read (goal.at.loop-side-smaller-then-ne c).In-Record)

pub loop-side-preserved-then-ne : goal.loop-side-preserved-then-ne
loop-side-preserved-then-ne c =
    placing_other c.loop-side.invariant (read (goal.at.loop-side-preserved-then-ne c).In-Record) (told_not_same c.in-Record.side Right c.ne.ensures c.if-ne.true)

pub number_slot-slot-requires : goal.number_slot-slot-requires
number_slot-slot-requires c = c.requires.blocks_counted

pub overflow_cast-slots : goal.overflow_cast-slots
overflow_cast-slots c =
    let after = walking_step c.loop-side.invariant.walk (read (goal.at.overflow_cast-slots c).In-Record) in
    let size = read_length c.args.file.now c.loop-side.at (read (goal.at.overflow_cast-slots c).In-Record) in
    record { fits = omega (arith, size, walking_within after, c.requires.slottable.short) }

pub offset_bounds-slots-slot : goal.offset_bounds-slots-slot
offset_bounds-slots-slot c = record { fits = omega (arith, room (goal.at.offset_bounds-slots-slot c).After-number_slot-slot, c.loop-side.invariant.size) }

pub bounds-slots-slot : goal.bounds-slots-slot
bounds-slots-slot c = room (goal.at.bounds-slots-slot c).After-number_slot-slot

pub loop-side-smaller : goal.loop-side-smaller
loop-side-smaller c = read_less _ _ (read (goal.at.loop-side-smaller c).In-Record)

pub loop-side-preserved : goal.loop-side-preserved
loop-side-preserved c =
    subst
    (λ (k : ℕ). SlotPlacing c.args.file.now c.args.used.now (set c.loop-side.slots k c.loop-side.at) c.in-Record.next)
    (sym c.number_slot-slot.ensures)
    (placing_own c.loop-side.invariant (read (goal.at.loop-side-preserved c).In-Record) c.requires.numbers_noted (byte (goal.at.loop-side-preserved c).In-Record) (is_right (goal.at.loop-side-preserved c).After-number_slot-slot) c.requires.slottable.once)
