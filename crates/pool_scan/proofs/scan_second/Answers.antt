use Rattle.std.specs.Prelude.{Err}
use Rattle.std.proofs.Common.{◌≡◌, ℕ, ◌<◌, ◌≤◌, true, false, get_or, sym, ap, ◌∙◌, arith}
use Rattle.bit_sets.specs.BitSets.{member}
use Rattle.sets.specs.Limits.{max_set_length, half_words}
use Rattle.sets.specs.declared.Refusal.TheVariants.{Malformed, NumberUsed, TooMany}
use Rattle.sets.specs.declared.Side.TheVariants.{Right}
use Rattle.tag_file.specs.declared.ReadAnswer.TheVariants.{Record}
use Rattle.tag_file.specs.Reading.{read_at}
use Rattle.tag_file.specs.Records.{same_side}
use Rattle.tag_file.proofs.Ended.{no_records}
use Rattle.tag_file.proofs.Sides.{told_equal, told_unequal}
use Rattle.tag_file.proofs.RecordLaws.{read_less, read_number, read_count}
use Rattle.pool_scan.specs.declared.counting.Counted.{Counted}
use Rattle.pool_scan.specs.counting.Counting.{counted_by}
use Rattle.pool_scan.proofs.Passing.{over_of, passing_by, passing_start, passing_whole, passing_cut, passing_left, passing_used}
use Rattle.pool_scan.proofs.Passing.{passing_repeats, passing_past, passing_next}
use Rattle.pool_scan.proofs.Step.{step_ready, step_bounds, stepped}
use Rattle.pool_scan.proofs.Words.{noted_start}
use Rattle.pool_scan.proofs.scan_second.Goals as goal
use Rattle.pool_scan.proofs.scan_second.Goals.{Else-claim, In-Record, Then-eq}

-- the record that was read
read : (a : In-Record)
    → read_at a.args.second.now a.loop-side.at
    ≡ Record a.in-Record.side a.in-Record.number a.in-Record.count a.in-Record.tags_at a.in-Record.next
read a = sym a.read_record-answer.ensures ∙ a.in-Record.is

small : (a : In-Record) → a.in-Record.number < half_words
small a = read_number _ _ (read a) (λ i. (a.type_inv.second i).fits)

few : (a : In-Record) → a.in-Record.count ≤ max_set_length
few a = read_count _ _ (read a) (λ i. (a.type_inv.second i).fits)

-- it is of the right side
right : (a : Then-eq) → same_side Right a.in-Record.side ≡ true
right a = told_equal a.in-Record.side Right a.eq.ensures a.if-eq.true

right_here : (e : Else-claim) → same_side Right e.in-Record.side ≡ true
right_here e = right (goal.at.Else-claim e).Then-eq

-- its number was not noted
free : (e : Else-claim) → member e.loop-side.noted e.in-Record.number ≡ false
free e = sym e.claim.ensures.before ∙ e.if-claim.false

-- the first file has bytes
bytes : (e : Else-claim) (i : ℕ) → get_or e.args.first.now i 0 < 256
bytes e i = (e.type_inv.first i).fits

pub count_from-counted-requires : goal.count_from-counted-requires
count_from-counted-requires c = tt

pub loop-side-init : goal.loop-side-init
loop-side-init c =
    passing_by c.count_from-counted.ensures (passing_start c.requires noted_start)

pub read_record-answer-requires : goal.read_record-answer-requires
read_record-answer-requires c = tt

pub wrapping_add_usize-place-requires : goal.wrapping_add_usize-place-requires
wrapping_add_usize-place-requires c = tt

pub accepted-requires : goal.accepted-requires
accepted-requires c = tt

pub shape_of-slots-then-at-second : goal.shape_of-slots-then-at-second
shape_of-slots-then-at-second c = c.loop-side.invariant.size ∙ sym c.requires.slotted.size

pub returns-then-at-second : goal.returns-then-at-second
returns-then-at-second c =
    let read = c.read_record-answer in
    let stop = no_records c.args.second.now c.loop-side.at read.result (sym read.ensures) c.in_default.not-Record in
    passing_whole c.loop-side.invariant stop c.if-at-second.true c.accepted.ensures

pub refused-requires : goal.refused-requires
refused-requires c = tt

pub shape_of-slots-in_default : goal.shape_of-slots-in_default
shape_of-slots-in_default c = c.loop-side.invariant.size ∙ sym c.requires.slotted.size

pub returns-in_default : goal.returns-in_default
returns-in_default c =
    let read = c.read_record-answer in
    let stop = no_records c.args.second.now c.loop-side.at read.result (sym read.ensures) c.in_default.not-Record in
    passing_cut c.loop-side.invariant stop c.if-at-second.false
    (c.refused.ensures ∙ ap (λ (k : ℕ). Err (Malformed k)) c.wrapping_add_usize-place.ensures.value)

pub slice_bounds-claim-end : goal.slice_bounds-claim-end
slice_bounds-claim-end c = sym c.loop-side.invariant.numbers.wide

pub claim-requires : goal.claim-requires
claim-requires c = c.loop-side.invariant.numbers.wide

pub refused-requires-then-claim : goal.refused-requires-then-claim
refused-requires-then-claim c = tt

pub shape_of-slots-then-claim : goal.shape_of-slots-then-claim
shape_of-slots-then-claim c = c.loop-side.invariant.size ∙ sym c.requires.slotted.size

pub returns-then-claim : goal.returns-then-claim
returns-then-claim c =
    let l = c.loop-side in
    passing_used l.invariant (read (goal.at.returns-then-claim c).In-Record) (right (goal.at.returns-then-claim c).Then-eq) (small (goal.at.returns-then-claim c).In-Record) (sym c.claim.ensures.before ∙ c.if-claim.true) l.invariant.size
    (c.refused-then-claim.ensures ∙ ap (λ (k : ℕ). Err (NumberUsed k)) c.wrapping_add_usize-place.ensures.value)

pub unite-united-requires : goal.unite-united-requires
unite-united-requires c =
    step_ready c.requires (bytes (goal.at.unite-united-requires c).Else-claim) c.loop-side.invariant (read (goal.at.unite-united-requires c).In-Record) (right_here (goal.at.unite-united-requires c).Else-claim) (small (goal.at.unite-united-requires c).In-Record) (free (goal.at.unite-united-requires c).Else-claim) (few (goal.at.unite-united-requires c).In-Record)

pub count_set-counted-requires : goal.count_set-counted-requires
count_set-counted-requires c =
    let inv = c.loop-side.invariant in
    let bounds = step_bounds c.requires (bytes (goal.at.count_set-counted-requires c).Else-claim) inv (read (goal.at.count_set-counted-requires c).In-Record) (right_here (goal.at.count_set-counted-requires c).Else-claim) (small (goal.at.count_set-counted-requires c).In-Record) (free (goal.at.count_set-counted-requires c).Else-claim) c.unite-united.ensures in
    let one = stepped c.requires (bytes (goal.at.count_set-counted-requires c).Else-claim) inv (read (goal.at.count_set-counted-requires c).In-Record) (right_here (goal.at.count_set-counted-requires c).Else-claim) (small (goal.at.count_set-counted-requires c).In-Record) (free (goal.at.count_set-counted-requires c).Else-claim) c.unite-united.ensures in
    let more = passing_repeats inv (read (goal.at.count_set-counted-requires c).In-Record) one.distinct (omega (arith, c.well_formed.0)) (omega (arith, c.well_formed.1.0)) in
    record {
      limited = inv.taken.limited;
      less = bounds.0;
      few = bounds.1;
      distinct = more.0;
      fits = more.1;
    }

pub is_past-requires : goal.is_past-requires
is_past-requires c = tt

pub refused-requires-then-is_past : goal.refused-requires-then-is_past
refused-requires-then-is_past c = tt

pub shape_of-slots-then-is_past : goal.shape_of-slots-then-is_past
shape_of-slots-then-is_past c =
    let one = stepped c.requires (bytes (goal.at.shape_of-slots-then-is_past c).Else-claim) c.loop-side.invariant (read (goal.at.shape_of-slots-then-is_past c).In-Record) (right_here (goal.at.shape_of-slots-then-is_past c).Else-claim) (small (goal.at.shape_of-slots-then-is_past c).In-Record) (free (goal.at.shape_of-slots-then-is_past c).Else-claim) c.unite-united.ensures in
    one.size ∙ sym c.requires.slotted.size

pub returns-then-is_past : goal.returns-then-is_past
returns-then-is_past c =
    let inv = c.loop-side.invariant in
    let one = stepped c.requires (bytes (goal.at.returns-then-is_past c).Else-claim) inv (read (goal.at.returns-then-is_past c).In-Record) (right_here (goal.at.returns-then-is_past c).Else-claim) (small (goal.at.returns-then-is_past c).In-Record) (free (goal.at.returns-then-is_past c).Else-claim) c.unite-united.ensures in
    passing_past inv (read (goal.at.returns-then-is_past c).In-Record) (right_here (goal.at.returns-then-is_past c).Else-claim) (small (goal.at.returns-then-is_past c).In-Record) (free (goal.at.returns-then-is_past c).Else-claim) c.unite-united.result one.one one.size
    (sym (ap (λ (k : Counted). over_of k.total) c.count_set-counted.ensures) ∙ sym c.is_past.ensures ∙ c.if-is_past.true)
    (c.refused-then-is_past.ensures ∙ ap (λ (k : ℕ). Err (TooMany k)) c.wrapping_add_usize-place.ensures.value)

pub loop-side-smaller-else-is_past : goal.loop-side-smaller-else-is_past
loop-side-smaller-else-is_past c = read_less _ _ (read (goal.at.loop-side-smaller-else-is_past c).In-Record)

pub loop-side-preserved-else-is_past : goal.loop-side-preserved-else-is_past
loop-side-preserved-else-is_past c =
    let inv = c.loop-side.invariant in
    let one = stepped c.requires (bytes (goal.at.loop-side-preserved-else-is_past c).Else-claim) inv (read (goal.at.loop-side-preserved-else-is_past c).In-Record) (right_here (goal.at.loop-side-preserved-else-is_past c).Else-claim) (small (goal.at.loop-side-preserved-else-is_past c).In-Record) (free (goal.at.loop-side-preserved-else-is_past c).Else-claim) c.unite-united.ensures in
    passing_by
    (c.count_set-counted.ensures ∙ ap (counted_by c.loop-side.counted c.unite-united.result c.in-Record.count) c.wrapping_add_usize-place.ensures.value)
    (passing_next inv (read (goal.at.loop-side-preserved-else-is_past c).In-Record) (right_here (goal.at.loop-side-preserved-else-is_past c).Else-claim) (small (goal.at.loop-side-preserved-else-is_past c).In-Record) (free (goal.at.loop-side-preserved-else-is_past c).Else-claim) c.unite-united.result one.one one.size
    (sym (ap (λ (k : Counted). over_of k.total) c.count_set-counted.ensures) ∙ sym c.is_past.ensures ∙ c.if-is_past.false)
    c.claim.ensures.noted one.distinct one.words one.is one.counted)

pub loop-side-smaller : goal.loop-side-smaller
loop-side-smaller c = read_less _ _ (read (goal.at.loop-side-smaller c).In-Record)

pub loop-side-preserved : goal.loop-side-preserved
loop-side-preserved c = passing_left c.loop-side.invariant (read (goal.at.loop-side-preserved c).In-Record) (told_unequal c.in-Record.side Right c.eq.ensures c.if-eq.false)
