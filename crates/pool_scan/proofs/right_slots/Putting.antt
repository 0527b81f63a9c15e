-- The word of one right set put into its slot: the slots of the others keep theirs.
use Rattle.std.proofs.Common.{◌≡◌, ℕ, ◌<◌, true, eqb, List, ◌∷◌, ◌++◌, length, get_or, set, sym, ap, ◌∙◌, ap₂, arith, get_or-set_other, get_or-set_same, eqb-true}
use borrow.Author.Tests.{eqb-false}
use Rattle.lists.proofs.Bools.{by_test}
use Rattle.bit_sets.specs.BitSets.{member}
use Rattle.sets.specs.Limits.{max_sets, half_words}
use Rattle.sets.specs.declared.Side.TheVariants.{Right}
use Rattle.tag_file.specs.Records.{TagRecord, same_side}
use Rattle.pool_scan.specs.right_slots.Slots.{number_slot, NumbersNoted, NumbersOnce, AtSlots}
use Rattle.pool_scan.proofs.right_slots.Counted.{slot_below, slot_injective}
use Rattle.pool_scan.proofs.right_slots.Found.{noted_member, once_same}

-- a slot where a word was put
pub put_same : (used slots : List ℕ) (x v : ℕ) {rs : List TagRecord} → NumbersNoted rs used → x < half_words → member used x ≡ true
    → length slots ≡ max_sets → get_or (set slots (number_slot used x) v) (number_slot used x) 0 ≡ v
put_same used slots x v noted small there long =
    get_or-set_same slots (number_slot used x) v 0 (omega (arith, slot_below used noted x small there))

-- the slot of another used number
pub put_other : (used slots : List ℕ) (x y v : ℕ) → member used x ≡ true → member used y ≡ true → (y ≡ x → ⊥)
    → get_or (set slots (number_slot used x) v) (number_slot used y) 0 ≡ get_or slots (number_slot used y) 0
put_other used slots x y v at_x at_y other =
    get_or-set_other slots (number_slot used x) (number_slot used y) v 0 (λ e. other (slot_injective used y x at_y at_x e))

-- every number of a right set among records is small
abbrev pub NumbersSmall : List TagRecord → Type 0
NumbersSmall rs = (before : List TagRecord) (r : TagRecord) (after : List TagRecord) → rs ≡ before ++ (r ∷ after)
    → r.number < half_words

pub at_slots_put : (rs : List TagRecord) (used slots : List ℕ) (f g : List TagRecord → TagRecord → ℕ)
    → NumbersOnce rs → NumbersNoted rs used → NumbersSmall rs → length slots ≡ max_sets → AtSlots f rs used slots
    → (before : List TagRecord) (r : TagRecord) (after : List TagRecord) (v : ℕ) → rs ≡ before ++ (r ∷ after)
    → same_side Right r.side ≡ true → g before r ≡ v
    → ((b : List TagRecord) (s : TagRecord) (a : List TagRecord) → rs ≡ b ++ (s ∷ a) → same_side Right s.side ≡ true
    → (s.number ≡ r.number → ⊥) → g b s ≡ f b s)
    → AtSlots g rs used (set slots (number_slot used r.number) v)
at_slots_put rs used slots f g once noted small long old before r after v e right now others = each
  where
    there : member used r.number ≡ true
    there = noted_member noted before r after e right (small before r after e)

    each : AtSlots g rs used (set slots (number_slot used r.number) v)
    each b s a e-s right-s =
        by_test (eqb s.number r.number) (λ t. this (eqb-true s.number r.number t))
        (λ t. other (eqb-false s.number r.number t))
      where
        this : s.number ≡ r.number → get_or (set slots (number_slot used r.number) v) (number_slot used s.number) 0 ≡ g b s
        this same =
            ap (λ (n : ℕ). get_or (set slots (number_slot used r.number) v) (number_slot used n) 0) same
            ∙ put_same used slots r.number v noted (small before r after e) there long ∙ sym now
            ∙ once_same once before r after e b s a e-s right right-s same (λ p q t. ap₂ g p q)

        other : (s.number ≡ r.number → ⊥)
            → get_or (set slots (number_slot used r.number) v) (number_slot used s.number) 0 ≡ g b s
        other ne =
            put_other used slots r.number s.number v there (noted_member noted b s a e-s right-s (small b s a e-s)) ne
            ∙ old b s a e-s right-s ∙ sym (others b s a e-s right-s ne)
