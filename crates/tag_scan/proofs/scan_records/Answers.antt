use mathlib.Core.Path.{◌≡◌, refl, sym, ap, subst, ◌∙◌}
use mathlib.Core.List.{List, []}
use mathlib.Core.Bool.{false}
use Prim.Native.Nat.{ℕ, ◌<◌, ◌≤◌}
use native.Mathlib.Omega.{arith}
use lib.ListN.{length, replicate, length-replicate}
use Rattle.std.specs.Prelude.{Result}
use Rattle.lists.specs.Lists.{keep, sum}
use Rattle.bit_sets.specs.BitSets.{member}
use Rattle.sets.specs.Limits.{max_set_length, half_words}
use Rattle.tag_file.specs.declared.ReadAnswer.TheVariants.{Record}
use Rattle.tag_file.specs.Reading.{read_at}
use Rattle.tag_file.specs.Records.{insert_all, all_tags}
use Rattle.tag_file.proofs.Ended.{no_records}
use Rattle.tag_file.proofs.RecordLaws.{read_less, read_number, read_count}
use Rattle.tag_index.specs.tag_adding.Adding.{seen_words, Adding}
use Rattle.tag_index.proofs.tag_adding.AddLaws.{adding_start, added_distinct}
use Rattle.tag_scan.specs.used_numbers.Keys.{used_words, key_of}
use Rattle.tag_scan.proofs.used_numbers.Numbers.{Noted, noted_start}
use Rattle.tag_scan.specs.Scan.{Scanned}
use Rattle.tag_scan.proofs.Taking.{taken_start}
use Rattle.tag_scan.proofs.Scanning.{scanning_start, scanning_stop, scanning_used, scanning_room}
use Rattle.tag_scan.proofs.Scanning.{distinct_few, repeats_room, scanning_past, scanning_next}
use Rattle.tag_scan.proofs.scan_records.Goals as goal
use Rattle.tag_scan.proofs.scan_records.Goals.{After-add_tags-added, At-loop-side, In-Record, Start}
use Rattle.sets.specs.declared.Refusal.{Refusal}
use Rattle.tag_file.specs.declared.Loaded.{Loaded}
use Rattle.tag_file.specs.declared.Repeats.{Repeats}

-- the record that was read
read : (a : In-Record)
    → read_at a.args.file.now a.loop-side.at
    ≡ Record a.in-Record.side a.in-Record.number a.in-Record.count a.in-Record.tags_at a.in-Record.next
read a = sym a.read_record-answer.ensures ∙ a.in-Record.is

small : (a : In-Record) → a.in-Record.number < half_words
small a = read_number _ _ (read a) (λ i. (a.type_inv.file i).fits)

few : (a : In-Record) → a.in-Record.count ≤ max_set_length
few a = read_count _ _ (read a) (λ i. (a.type_inv.file i).fits)

-- no tags of it are added yet
none_added : (l : At-loop-side)
    → Adding [] l.loop-side.index l.loop-side.total.tag_count 0 (replicate seen_words 0)
none_added l = adding_start l.loop-side.invariant.taken.sorted

free : (g : After-add_tags-added)
    → member g.loop-side.used (key_of g.in-Record.side g.in-Record.number) ≡ false
free g = sym g.claim.ensures.before ∙ g.if-claim.false

-- the lent bit set keeps its length
as_long : (s : Start) {k : ℕ} → k ≡ used_words → k ≡ length s.args.used.now
as_long s e = e ∙ sym (ap length s.requires.used_value ∙ length-replicate {A = ℕ} used_words 0)

pub loop-side-init : goal.loop-side-init
unfolding keep sum insert_all all_tags
loop-side-init c =
    let a = c.args in
    scanning_start a.file.now _ a.index.now (taken_start _ _ c.requires.lengths refl)
    (subst (λ (l : List ℕ). Noted l []) (sym c.requires.used_value) noted_start)

pub read_record-answer-requires : goal.read_record-answer-requires
read_record-answer-requires c =
    tt

pub stopped-requires : goal.stopped-requires
stopped-requires c =
    tt

pub shape_of-used-in_default : goal.shape_of-used-in_default
shape_of-used-in_default c =
    as_long (goal.at.shape_of-used-in_default c).Start c.loop-side.invariant.noted.wide

pub returns-in_default : goal.returns-in_default
returns-in_default c =
    let l = c.loop-side in
    let file = c.args.file.now in
    let read = c.read_record-answer in
    let stop = no_records file l.at read.result (sym read.ensures) c.in_default.not-Record in
    subst (λ (r : Result (Loaded × Repeats) Refusal). Scanned file l.index r) (sym c.stopped.ensures)
    (scanning_stop l.invariant read.result (sym read.ensures) stop)

pub claim-requires : goal.claim-requires
claim-requires c =
    c.loop-side.invariant.noted.wide

pub shape_of-used-then-claim : goal.shape_of-used-then-claim
shape_of-used-then-claim c =
    as_long (goal.at.shape_of-used-then-claim c).Start (c.claim.ensures.noted.size ∙ c.loop-side.invariant.noted.wide)

pub returns-then-claim : goal.returns-then-claim
returns-then-claim c =
    scanning_used c.loop-side.invariant (read (goal.at.returns-then-claim c).In-Record) (small (goal.at.returns-then-claim c).In-Record) (sym c.claim.ensures.before ∙ c.if-claim.true)

pub slice_bounds-add_tags-end : goal.slice_bounds-add_tags-end
slice_bounds-add_tags-end c =
    sym (none_added (goal.at.slice_bounds-add_tags-end c).At-loop-side).wide

pub add_tags-added-requires : goal.add_tags-added-requires
add_tags-added-requires c =
    record {
      some_adding = record { done = []; adding = none_added (goal.at.add_tags-added-requires c).At-loop-side };
      room_to_add = scanning_room c.loop-side.invariant (read (goal.at.add_tags-added-requires c).In-Record) (few (goal.at.add_tags-added-requires c).In-Record);
    }

pub grown-total-requires : goal.grown-total-requires
grown-total-requires c =
    let none = none_added (goal.at.grown-total-requires c).At-loop-side in
    record {
      limited = c.loop-side.invariant.taken.limited;
      distinct_le_max_set_length = distinct_few c.loop-side.invariant (read (goal.at.grown-total-requires c).In-Record) (c.add_tags-added.ensures [] none) none (few (goal.at.grown-total-requires c).In-Record);
    }

pub is_over-requires : goal.is_over-requires
is_over-requires c =
    tt

pub shape_of-used-then-is_over : goal.shape_of-used-then-is_over
shape_of-used-then-is_over c =
    as_long (goal.at.shape_of-used-then-is_over c).Start (c.claim.ensures.noted.size ∙ c.loop-side.invariant.noted.wide)

pub returns-then-is_over : goal.returns-then-is_over
returns-then-is_over c =
    scanning_past c.loop-side.invariant (read (goal.at.returns-then-is_over c).In-Record) (c.add_tags-added.ensures [] (none_added (goal.at.returns-then-is_over c).At-loop-side)) (small (goal.at.returns-then-is_over c).In-Record) (free (goal.at.returns-then-is_over c).After-add_tags-added) c.grown-total.ensures
    (sym c.is_over.ensures ∙ c.if-is_over.true)

pub overflow_sub-count : goal.overflow_sub-count
overflow_sub-count c =
    let none = none_added (goal.at.overflow_sub-count c).At-loop-side in
    omega (arith, added_distinct none (c.add_tags-added.ensures [] none))

pub repeated-repeats-requires : goal.repeated-repeats-requires
repeated-repeats-requires c =
    repeats_room c.loop-side.invariant (read (goal.at.repeated-repeats-requires c).In-Record) (c.add_tags-added.ensures [] (none_added (goal.at.repeated-repeats-requires c).At-loop-side)) (omega (arith, c.well_formed.0))

pub loop-side-smaller : goal.loop-side-smaller
loop-side-smaller c =
    read_less _ _ (read (goal.at.loop-side-smaller c).In-Record)

pub loop-side-preserved : goal.loop-side-preserved
loop-side-preserved c =
    scanning_next c.loop-side.invariant (read (goal.at.loop-side-preserved c).In-Record) (c.add_tags-added.ensures [] (none_added (goal.at.loop-side-preserved c).At-loop-side)) (small (goal.at.loop-side-preserved c).In-Record) (free (goal.at.loop-side-preserved c).After-add_tags-added) c.grown-total.ensures
    c.claim.ensures.noted (sym c.is_over.ensures ∙ c.if-is_over.false) c.repeated-repeats.ensures
