-- The numbers of the right sets being noted: the invariant of the walk, with its start, steps and end.
use Rattle.std.proofs.Common.{◌≡◌, ℕ, ◌≤◌, Bool, true, false, ◌||◌, eqb, List, [], ◌∷◌, ◌++◌, map, length, replicate, sym, ap, ◌∙◌, ap₂, arith, length-append}
use mathlib.Core.Bool.{or-false, or_comm}
use lib.ListN.{length-replicate}
use Rattle.lists.specs.Lists.{keep, memb, upto}
use Rattle.lists.proofs.Counting.{count_none}
use Rattle.lists.proofs.Membership.{memb_append}
use Rattle.bit_sets.specs.BitSets.{member, Inserted}
use Rattle.bit_sets.proofs.Members.{no_member}
use Rattle.bit_sets.proofs.Counted.{count_inserted}
use Rattle.sets.specs.Limits.{max_sets, half_words}
use Rattle.sets.specs.declared.Side.{Side}
use Rattle.sets.specs.declared.Side.TheVariants.{Right}
use Rattle.tag_file.specs.Reading.{read_at}
use Rattle.tag_file.specs.Records.{TagRecord, records_at, records, same_side, of_side}
use Rattle.tag_file.specs.Loading.{numbers_of}
use Rattle.tag_file.specs.declared.ReadAnswer.TheVariants.{Record}
use Rattle.tag_file.proofs.FaultFree.{side_other, side_own, numbers_own}
use Rattle.pool_scan.specs.right_slots.Slots.{number_words, number_slot, NumbersNoted}
use Rattle.pool_scan.proofs.right_slots.Walking.{Walking, walking_start, walking_step, walking_end, this}

-- the numbers of the right sets seen are members
pub record Noting (file used : List ℕ) (at : ℕ) : Type 0 where
  pub seen : List TagRecord
  pub walk : Walking file seen at
  pub wide : length used ≡ number_words
  pub has : (x : ℕ) → member used x ≡ memb x (numbers_of Right seen)
  pub few : number_slot used half_words ≤ length (of_side Right seen)

pub noting_wide : {used : List ℕ} → used ≡ replicate number_words 0 → length used ≡ number_words
noting_wide e = ap length e ∙ length-replicate {A = ℕ} number_words 0

pub noting_start : (file : List ℕ) {used : List ℕ} → used ≡ replicate number_words 0 → Noting file used 0
unfolding number_slot memb keep
noting_start file {used} e =
    record {
      seen = [];
      walk = walking_start file;
      wide = noting_wide e;
      has = none;
      few = omega (arith, count_none (member used) (upto half_words) none);
    }
  where
    none : (x : ℕ) → member used x ≡ false
    none x = ap (λ (l : List ℕ). member l x) e ∙ no_member number_words x

module _ {file used : List ℕ} {at : ℕ} (w : Noting file used at) where
  pub noting_end : records_at file at ≡ [] → length (of_side Right (records file)) ≤ max_sets → NumbersNoted (records file) used
  noting_end stop small =
      let all = walking_end w.walk stop in
      record {
        wide = w.wide;
        has = λ x below. w.has x ∙ ap (λ (l : List TagRecord). memb x (numbers_of Right l)) (sym all);
        few = omega (arith, w.few, ap (λ (l : List TagRecord). length (of_side Right l)) all);
      }

  module _ {side : Side} {n c p next : ℕ} (e : read_at file at ≡ Record side n c p next) where
    abbrev here : TagRecord
    here = this w.walk e

    -- a left set's record
    pub noting_other : same_side Right side ≡ false → Noting file used next
    noting_other left =
        let same = side_other Right w.seen here left in
        record {
          seen = w.seen ++ (here ∷ []);
          walk = walking_step w.walk e;
          wide = w.wide;
          has = λ x. w.has x ∙ ap (λ (l : List TagRecord). memb x (map (λ r. r.number) l)) (sym same);
          few = omega (arith, w.few, ap length same);
        }

    -- a right set's record
    pub noting_own : {is : List ℕ} → same_side Right side ≡ true → Inserted used n is → Noting file is next
    unfolding memb number_slot
    noting_own {is} right put =
        record {
          seen = w.seen ++ (here ∷ []);
          walk = walking_step w.walk e;
          wide = put.size ∙ w.wide;
          has = has_now;
          few = few_now;
        }
      where
        has_now : (x : ℕ) → member is x ≡ memb x (numbers_of Right (w.seen ++ (here ∷ [])))
        has_now x =
            put.holds x
            ∙ ap₂ (λ (a b : Bool). a || b) (sym (or-false (eqb x n))) (w.has x)
            ∙ or_comm (memb x (n ∷ [])) (memb x (numbers_of Right w.seen))
            ∙ sym (memb_append x (numbers_of Right w.seen) (n ∷ []))
            ∙ ap (memb x) (sym (numbers_own Right w.seen here right))

        few_now : number_slot is half_words ≤ length (of_side Right (w.seen ++ (here ∷ [])))
        few_now =
            omega (
              arith,
              w.few,
              count_inserted put half_words,
              ap length (side_own Right w.seen here right),
              length-append (of_side Right w.seen) (here ∷ []),
            )
