-- The byte places being put into their slots: the invariant of the walk, with its start, steps and end.
use Rattle.std.proofs.Common.{◌≡◌, ℕ, ◌<◌, true, false, List, [], ◌∷◌, ◌++◌, length, get_or, set, sym, ap, ◌∙◌, subst, ap₂, append_assoc, arith, length-append, length-set}
use Rattle.lists.proofs.Bools.{true-false}
use Rattle.bit_sets.specs.BitSets.{member}
use Rattle.sets.specs.Limits.{max_sets, half_words}
use Rattle.sets.specs.declared.Side.{Side}
use Rattle.sets.specs.declared.Side.TheVariants.{Right}
use Rattle.tag_file.specs.Reading.{read_at}
use Rattle.tag_file.specs.Records.{TagRecord, total_length, records_at, records, same_side}
use Rattle.tag_file.specs.Loading.{number_used}
use Rattle.tag_file.specs.declared.ReadAnswer.TheVariants.{Record}
use Rattle.tag_file.proofs.RecordLaws.{read_number}
use Rattle.tag_file.proofs.FoundRecords.{found_number}
use Rattle.pool_scan.specs.right_slots.Slots.{number_slot, NumbersNoted, NumbersOnce, AtSlots}
use Rattle.pool_scan.proofs.right_slots.Counted.{slot_below}
use Rattle.pool_scan.proofs.right_slots.Splits.{two_splits}
use Rattle.pool_scan.proofs.right_slots.Found.{noted_member, used_by_earlier}
use Rattle.pool_scan.proofs.right_slots.Putting.{put_same, put_other}
use Rattle.pool_scan.proofs.right_slots.Walking.{Walking, walking_start, walking_step, walking_here, walking_end, this}

-- the byte place of a record
abbrev place_of : List TagRecord → TagRecord → ℕ
place_of before r = total_length before

-- the right sets seen have their places in their slots
pub record SlotPlacing (file used slots : List ℕ) (at : ℕ) : Type 0 where
  pub seen : List TagRecord
  pub walk : Walking file seen at
  pub size : length slots ≡ max_sets
  pub put : AtSlots place_of seen used slots

never : {A P : Type 0} (xs : List A) (y : A) (ys : List A) → [] ≡ xs ++ (y ∷ ys) → P
never xs y ys e = absurd (omega (arith, ap length e, length-append xs (y ∷ ys)))

-- one more record, whose slot has its word where it is a right set's
at_slots_last : (f : List TagRecord → TagRecord → ℕ) (seen : List TagRecord) (used slots : List ℕ) (r : TagRecord)
    → AtSlots f seen used slots → (same_side Right r.side ≡ true → get_or slots (number_slot used r.number) 0 ≡ f seen r)
    → AtSlots f (seen ++ (r ∷ [])) used slots
at_slots_last f seen used slots r old last = each
  where
    each : AtSlots f (seen ++ (r ∷ [])) used slots
    each b s a e right =
        two_splits seen r [] b s a e (λ p q t. same p q right) (λ mid p. old b s mid p right)
        (λ mid p. past mid p)
      where
        same : seen ≡ b → r ≡ s → same_side Right s.side ≡ true → get_or slots (number_slot used s.number) 0 ≡ f b s
        same p q right-s =
            ap (λ (t : TagRecord). get_or slots (number_slot used t.number) 0) (sym q)
            ∙ last (ap (λ (t : TagRecord). same_side Right t.side) q ∙ right-s) ∙ ap₂ f p q

        past : {P : Type 0} (mid : List TagRecord) → b ≡ seen ++ (r ∷ mid) → P
        past mid p =
            absurd
            (omega (
              arith,
              ap length e,
              length-append seen (r ∷ []),
              length-append b (s ∷ a),
              ap length p,
              length-append seen (r ∷ mid),
            ))

module _ {file used slots : List ℕ} {at : ℕ} (w : SlotPlacing file used slots at) where
  pub placing_end : records_at file at ≡ [] → AtSlots place_of (records file) used slots
  placing_end stop =
      subst (λ (l : List TagRecord). AtSlots place_of l used slots) (sym (walking_end w.walk stop)) w.put

  module _ {side : Side} {n c p next : ℕ} (e : read_at file at ≡ Record side n c p next) where
    abbrev here : TagRecord
    here = this w.walk e

    -- a left set's record
    pub placing_other : same_side Right side ≡ false → SlotPlacing file used slots next
    placing_other left =
        record {
          seen = w.seen ++ (here ∷ []);
          walk = walking_step w.walk e;
          size = w.size;
          put = at_slots_last place_of w.seen used slots here w.put (λ right. true-false right left);
        }

    module _ (noted : NumbersNoted (records file) used) (byte : (i : ℕ) → get_or file i 0 < 256) (right : same_side Right side ≡ true) where
      small : n < half_words
      small = read_number file at e byte

      there : member used n ≡ true
      there = noted_member noted w.seen here (records_at file next) (walking_here w.walk e) right small

      pub placing_room : number_slot used n < length slots
      placing_room = omega (arith, w.size, slot_below used noted n small there)

      -- a right set's record
      pub placing_own : NumbersOnce (records file) → SlotPlacing file used (set slots (number_slot used n) at) next
      placing_own once =
          record {
            seen = w.seen ++ (here ∷ []);
            walk = walking_step w.walk e;
            size = length-set slots (number_slot used n) at ∙ w.size;
            put = at_slots_last place_of w.seen used (set slots (number_slot used n) at) here kept
                (λ r. put_same used slots n at noted small there w.size ∙ w.walk.place);
          }
        where
          unused : number_used w.seen here ≡ false
          unused = once w.seen here (records_at file next) (walking_here w.walk e)

          kept : AtSlots place_of w.seen used (set slots (number_slot used n) at)
          kept b s a f right-s =
              let after = a ++ (here ∷ records_at file next) in
              let all : records file ≡ b ++ (s ∷ after) =
              walking_here w.walk e ∙ ap (λ (l : List TagRecord). l ++ (here ∷ records_at file next)) f
              ∙ append_assoc b (s ∷ a) (here ∷ records_at file next) in
              let member-s = noted_member noted b s after all right-s (found_number file byte b s after all) in
              put_other used slots n s.number at there member-s
              (λ same. true-false
              (ap (λ (l : List TagRecord). number_used l here) f ∙ used_by_earlier b s a here right-s right same) unused)
              ∙ w.put b s a f right-s

pub placing_start : (file used slots : List ℕ) → length slots ≡ max_sets → SlotPlacing file used slots 0
placing_start file used slots long =
    record { seen = []; walk = walking_start file; size = long; put = λ b s a e right. never b s a e }
