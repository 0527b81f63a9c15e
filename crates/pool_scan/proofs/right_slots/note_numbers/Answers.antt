use Rattle.sets.specs.declared.Side.TheVariants.{Right}
use Rattle.std.proofs.Common.{◌≡◌, ◌<◌, sym, ◌∙◌, arith}
use Rattle.sets.specs.Limits.{half_words}
use Rattle.tag_file.specs.Reading.{read_at}
use Rattle.tag_file.specs.declared.ReadAnswer.TheVariants.{Record}
use Rattle.tag_file.proofs.Ended.{no_records}
use Rattle.tag_file.proofs.Sides.{told_same, told_not_same}
use Rattle.tag_file.proofs.RecordLaws.{read_less, read_number}
use Rattle.pool_scan.proofs.right_slots.Noting.{noting_wide, noting_start, noting_end, noting_other, noting_own}
use Rattle.pool_scan.proofs.right_slots.note_numbers.Goals as goal
use Rattle.pool_scan.proofs.right_slots.note_numbers.Goals.{In-Record}

-- the record that was read
read : (a : In-Record)
    → read_at a.args.file.now a.loop-side.at
    ≡ Record a.in-Record.side a.in-Record.number a.in-Record.count a.in-Record.tags_at a.in-Record.next
read a = sym a.read_record-answer.ensures ∙ a.in-Record.is

small : (a : In-Record) → a.in-Record.number < half_words
small a = read_number _ _ (read a) (λ i. (a.type_inv.file i).fits)

pub loop-side-init : goal.loop-side-init
loop-side-init c = noting_start c.args.file.now c.requires.used_value

pub read_record-answer-requires : goal.read_record-answer-requires
read_record-answer-requires c = tt

pub shape_of-used-in_default : goal.shape_of-used-in_default
shape_of-used-in_default c =
    c.loop-side.invariant.wide ∙ sym (noting_wide c.requires.used_value)

pub returns-in_default : goal.returns-in_default
returns-in_default c =
    let told = c.read_record-answer in
    let stop = no_records c.args.file.now c.loop-side.at told.result (sym told.ensures) c.in_default.not-Record in
    noting_end c.loop-side.invariant stop c.requires.file_len_bound

pub loop-side-smaller-then-ne : goal.loop-side-smaller-then-ne
loop-side-smaller-then-ne c = read_less _ _ (read (goal.at.loop-side-smaller-then-ne c).In-Record)

pub loop-side-preserved-then-ne : goal.loop-side-preserved-then-ne
loop-side-preserved-then-ne c =
    noting_other c.loop-side.invariant (read (goal.at.loop-side-preserved-then-ne c).In-Record) (told_not_same c.in-Record.side Right c.ne.ensures c.if-ne.true)

pub overflow_cast-number : goal.overflow_cast-number
overflow_cast-number c = record { fits = omega (arith, small (goal.at.overflow_cast-number c).In-Record) }

pub insert-requires : goal.insert-requires
insert-requires c =
    omega (arith, small (goal.at.insert-requires c).In-Record, c.loop-side.invariant.wide)

pub loop-side-smaller : goal.loop-side-smaller
loop-side-smaller c = read_less _ _ (read (goal.at.loop-side-smaller c).In-Record)

pub loop-side-preserved : goal.loop-side-preserved
loop-side-preserved c =
    noting_own c.loop-side.invariant (read (goal.at.loop-side-preserved c).In-Record)
    (told_same c.in-Record.side Right c.ne.ensures c.if-ne.false) c.insert.ensures
