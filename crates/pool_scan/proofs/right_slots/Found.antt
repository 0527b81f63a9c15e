-- Right sets found by their numbers: where a number is a member of the bit set, some right set among the records has it, and else none.
use Rattle.std.proofs.Common.{◌≡◌, ℕ, ◌<◌, Bool, true, false, List, [], ◌∷◌, ◌++◌, map, sym, refl, ap, ◌∙◌, arith}
use Rattle.lists.specs.Lists.{onto, keep, memb}
use Rattle.lists.proofs.Bools.{true-false, or_right}
use Rattle.lists.proofs.Membership.{memb_head, memb_cons, memb_nil, memb_append}
use Rattle.bit_sets.specs.BitSets.{member}
use Rattle.sets.specs.Limits.{half_words}
use Rattle.sets.specs.declared.Side.{Side}
use Rattle.sets.specs.declared.Side.TheVariants.{Right}
use Rattle.tag_file.specs.Records.{TagRecord, same_side, of_side}
use Rattle.tag_file.specs.Loading.{number_used, numbers_of}
use Rattle.tag_file.proofs.RecordLaws.{same_side_lem}
use Rattle.tag_file.proofs.FaultFree.{used_memb, numbers_around}
use Rattle.pool_scan.specs.right_slots.Slots.{NumbersNoted, NumbersOnce}
use Rattle.pool_scan.proofs.right_slots.Splits.{two_splits}

-- a right set among records that has a number
pub record FoundRight (rs : List TagRecord) (x : ℕ) : Type 0 where
  pub before : List TagRecord
  pub this : TagRecord
  pub after : List TagRecord
  pub split : rs ≡ before ++ (this ∷ after)
  pub right : same_side Right this.side ≡ true
  pub number : this.number ≡ x

found_memb : (rs : List TagRecord) (x : ℕ) → memb x (numbers_of Right rs) ≡ true → FoundRight rs x
unfolding keep
found_memb [] x there = memb_nil x there
found_memb (r ∷ rs) x there = by_side (same_side Right r.side) refl (λ m. later (found_memb rs x m)) there
  where
    later : FoundRight rs x → FoundRight (r ∷ rs) x
    later f =
        record {
          before = r ∷ f.before;
          this = f.this;
          after = f.after;
          split = ap (λ (l : List TagRecord). r ∷ l) f.split;
          right = f.right;
          number = f.number;
        }

    by_side : (b : Bool) → same_side Right r.side ≡ b → (memb x (numbers_of Right rs) ≡ true → FoundRight (r ∷ rs) x)
        → memb x (map (λ s. s.number) (onto b r (of_side Right rs))) ≡ true → FoundRight (r ∷ rs) x
    by_side true side again there =
        memb_cons x r.number (numbers_of Right rs) there
        (λ e. record { before = []; this = r; after = rs; split = refl; right = side; number = sym e })
        again
    by_side false side again there = again there

-- a right set's number is among the right sets' numbers
pub memb_around : (before : List TagRecord) (r : TagRecord) (after : List TagRecord) → same_side Right r.side ≡ true
    → memb r.number (numbers_of Right (before ++ (r ∷ after))) ≡ true
memb_around before r after right =
    let n = r.number in
    let same = same_side_lem Right r.side right in
    ap (λ (side : Side). memb n (numbers_of side (before ++ (r ∷ after)))) same ∙ ap (memb n) (numbers_around before r after)
    ∙ memb_append n (numbers_of r.side before) (n ∷ numbers_of r.side after)
    ∙ or_right (memb n (numbers_of r.side before)) (memb n (n ∷ numbers_of r.side after))
    (memb_head n (numbers_of r.side after))

module _ {rs : List TagRecord} {used : List ℕ} (noted : NumbersNoted rs used) where
  pub found_right : (x : ℕ) → x < half_words → member used x ≡ true → FoundRight rs x
  found_right x small there = found_memb rs x (sym (noted.has x small) ∙ there)

  -- what the bit set tells of a right set's number
  pub noted_used : (s : TagRecord) → same_side Right s.side ≡ true → s.number < half_words
      → number_used rs s ≡ member used s.number
  noted_used s right small =
      used_memb rs s.side s.number
      ∙ ap (λ (side : Side). memb s.number (numbers_of side rs)) (sym (same_side_lem Right s.side right))
      ∙ sym (noted.has s.number small)

  pub missed_right : (x : ℕ) → x < half_words → member used x ≡ false
      → (s : TagRecord) → same_side Right s.side ≡ true → s.number ≡ x → number_used rs s ≡ false
  missed_right x small out s right e = noted_used s right (omega arith) ∙ ap (member used) e ∙ out

  pub met_right : (x : ℕ) → x < half_words → member used x ≡ true
      → (s : TagRecord) → same_side Right s.side ≡ true → s.number ≡ x → number_used rs s ≡ true
  met_right x small there s right e = noted_used s right (omega arith) ∙ ap (member used) e ∙ there

  -- the number of a right set among the records is a member
  pub noted_member : (before : List TagRecord) (r : TagRecord) (after : List TagRecord) → rs ≡ before ++ (r ∷ after)
      → same_side Right r.side ≡ true → r.number < half_words → member used r.number ≡ true
  noted_member before r after e right small =
      noted.has r.number small ∙ ap (λ (l : List TagRecord). memb r.number (numbers_of Right l)) e
      ∙ memb_around before r after right

-- a right set's number was used by a right set before it with the same number
pub used_by_earlier : (b : List TagRecord) (s : TagRecord) (mid : List TagRecord) (r : TagRecord) → same_side Right s.side ≡ true
    → same_side Right r.side ≡ true → s.number ≡ r.number → number_used (b ++ (s ∷ mid)) r ≡ true
used_by_earlier b s mid r right-s right-r e =
    used_memb (b ++ (s ∷ mid)) r.side r.number
    ∙ ap (λ (side : Side). memb r.number (numbers_of side (b ++ (s ∷ mid)))) (sym (same_side_lem Right r.side right-r))
    ∙ ap (λ (n : ℕ). memb n (numbers_of Right (b ++ (s ∷ mid)))) (sym e)
    ∙ memb_around b s mid right-s

-- where no number was used twice, a right set is known by its number
pub once_same : {P : Type 0} {rs : List TagRecord} → NumbersOnce rs
    → (before : List TagRecord) (r : TagRecord) (after : List TagRecord) → rs ≡ before ++ (r ∷ after)
    → (b : List TagRecord) (s : TagRecord) (a : List TagRecord) → rs ≡ b ++ (s ∷ a)
    → same_side Right r.side ≡ true → same_side Right s.side ≡ true → s.number ≡ r.number
    → (before ≡ b → r ≡ s → after ≡ a → P) → P
once_same once before r after e b s a f right-r right-s same go =
    two_splits before r after b s a (sym e ∙ f) go
    (λ mid p. true-false
    (ap (λ (l : List TagRecord). number_used l r) p ∙ used_by_earlier b s mid r right-s right-r same)
    (once before r after e))
    (λ mid p. true-false
    (ap (λ (l : List TagRecord). number_used l s) p ∙ used_by_earlier before r mid s right-r right-s (sym same))
    (once b s a f))
