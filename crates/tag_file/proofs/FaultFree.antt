-- Records without a fault: what that says of them whatever their order. On each side no number occurs twice, and the limits hold.
use mathlib.Core.Path.{◌≡◌, refl, sym, ap, ◌∙◌}
use Prim.Native.Nat.{ℕ, ◌≤◌}
use mathlib.Core.List.{List, [], ◌∷◌, ◌++◌, map, append_assoc, append-nil, map-append}
use mathlib.Core.Bool.{Bool, true, false, ◌&&◌, ◌||◌}
use native.Mathlib.Omega.{arith}
use borrow.Author.Tests.{ltb-false}
use lib.Dec.{eqb, ltb}
use lib.ListN.{length}
use Rattle.std.specs.Prelude.{Result, Ok, ⊤}
use Rattle.lists.specs.Lists.{keep, onto, memb, any, sum, distinct}
use Rattle.lists.proofs.Bools.{by_test, or_left_false, or_right_false, eqb_comm}
use Rattle.lists.proofs.Distinct.{distinct_last, distinct_before}
use Rattle.lists.proofs.Filtering.{keep_append}
use Rattle.sets.specs.Limits.{max_items, max_sets, max_entries}
use Rattle.sets.specs.declared.Side.{Side}
use Rattle.sets.specs.declared.Side.TheVariants.{Left, Right}
use Rattle.sets.proofs.Testing.{both_passed}
use Rattle.tag_file.specs.Reading.{read_at}
use Rattle.tag_file.specs.Records.{TagRecord, total_length, records, same_side, of_side, insert_all, all_tags, tag_table, entries_of}
use Rattle.tag_file.specs.Loading.{number_used, too_many, fault_of, first_fault, refusal_of, file_fault, numbers_of}
use Rattle.tag_file.proofs.FaultLaws.{fault_clear}
use Rattle.tag_file.proofs.RecordLaws.{same_side_lem}
use Rattle.sets.specs.declared.Refusal.{Refusal}

-- what holds of records without a fault: on each side no number twice, and the limits
pub record FaultFree (rs : List TagRecord) : Type 0 where
  pub numbers : (side : Side) → distinct (numbers_of side rs) ≡ true
  pub places : (side : Side) → length (of_side side rs) ≤ max_sets
  pub entries : (side : Side) → entries_of side rs ≤ max_entries
  pub tags : length (tag_table rs) ≤ max_items

-- ---- numbers of a side

pub same_side-sym : (a b : Side) → same_side a b ≡ same_side b a
same_side-sym Left Left = refl
same_side-sym Left Right = refl
same_side-sym Right Left = refl
same_side-sym Right Right = refl

-- a number was used on a side where it is among that side's numbers
pub used_memb : (seen : List TagRecord) (side : Side) (n : ℕ)
    → any (λ s. same_side s.side side && eqb s.number n) seen ≡ memb n (numbers_of side seen)
unfolding any memb keep
used_memb [] side n = refl
used_memb (s ∷ seen) side n =
    rw (used_memb seen side n, same_side-sym s.side side, eqb_comm s.number n) (here (same_side side s.side))
  where
    here : (b : Bool)
        → ((b && eqb n s.number) || memb n (numbers_of side seen)) ≡ memb n (map (λ r. r.number) (onto b s (of_side side seen)))
    here true = refl
    here false = refl

-- ---- one more record

module _ (side : Side) (seen : List TagRecord) (r : TagRecord) where
  side_last : of_side side (seen ++ (r ∷ [])) ≡ of_side side seen ++ onto (same_side side r.side) r []
  unfolding keep
  side_last = keep_append (λ s. same_side side s.side) seen (r ∷ [])

  -- a record of the other side changes nothing on this one
  pub side_other : same_side side r.side ≡ false → of_side side (seen ++ (r ∷ [])) ≡ of_side side seen
  side_other f = side_last ∙ rw (f, append-nil)

  pub side_own : same_side side r.side ≡ true → of_side side (seen ++ (r ∷ [])) ≡ of_side side seen ++ (r ∷ [])
  side_own t = side_last ∙ rw t

  pub numbers_own : same_side side r.side ≡ true → numbers_of side (seen ++ (r ∷ [])) ≡ numbers_of side seen ++ (r.number ∷ [])
  numbers_own t = ap (map (λ s. s.number)) (side_own t) ∙ map-append (λ s. s.number) (of_side side seen) (r ∷ [])

-- the limits, from the test
module _ (side : Side) (rs : List TagRecord) (few : too_many side rs ≡ false) where
  pub few_places : length (of_side side rs) ≤ max_sets
  unfolding too_many
  few_places = ltb-false max_sets (length (of_side side rs)) (or_left_false _ _ few)

  pub few_entries : entries_of side rs ≤ max_entries
  unfolding too_many
  few_entries =
      ltb-false max_entries (entries_of side rs)
      (or_left_false _ _ (or_right_false (ltb max_sets (length (of_side side rs))) _ few))

  pub few_tags : length (tag_table rs) ≤ max_items
  unfolding too_many
  few_tags =
      ltb-false max_items (length (tag_table rs))
      (or_right_false (ltb max_entries (entries_of side rs)) _ (or_right_false (ltb max_sets (length (of_side side rs))) _ few))

free_step : (seen : List TagRecord) (r : TagRecord) → FaultFree seen → number_used seen r ≡ false
    → too_many r.side (seen ++ (r ∷ [])) ≡ false → FaultFree (seen ++ (r ∷ []))
free_step seen r so unused few =
    record {
      numbers = λ side. by_test (same_side side r.side) (own_numbers side) (other_numbers side);
      places = λ side. by_test (same_side side r.side) (own_places side) (other_places side);
      entries = λ side. by_test (same_side side r.side) (own_entries side) (other_entries side);
      tags = few_tags r.side (seen ++ (r ∷ [])) few;
    }
  where
    other_numbers : (side : Side) → same_side side r.side ≡ false → distinct (numbers_of side (seen ++ (r ∷ []))) ≡ true
    other_numbers side f =
        ap (λ (l : List TagRecord). distinct (map (λ s. s.number) l)) (side_other side seen r f) ∙ so.numbers side

    other_places : (side : Side) → same_side side r.side ≡ false → length (of_side side (seen ++ (r ∷ []))) ≤ max_sets
    other_places side f = rw (side_other side seen r f) (so.places side)

    other_entries : (side : Side) → same_side side r.side ≡ false → entries_of side (seen ++ (r ∷ [])) ≤ max_entries
    other_entries side f = rw (side_other side seen r f) (so.entries side)

    own_numbers : (side : Side) → same_side side r.side ≡ true → distinct (numbers_of side (seen ++ (r ∷ []))) ≡ true
    own_numbers side t =
        let e : side ≡ r.side = same_side_lem side r.side t in
        ap distinct (numbers_own side seen r t)
        ∙ distinct_last (numbers_of side seen) r.number (so.numbers side)
        (sym (used_memb seen side r.number) ∙ rw e unused)

    own_places : (side : Side) → same_side side r.side ≡ true → length (of_side side (seen ++ (r ∷ []))) ≤ max_sets
    own_places side t = rw (same_side_lem side r.side t) (few_places r.side (seen ++ (r ∷ [])) few)

    own_entries : (side : Side) → same_side side r.side ≡ true → entries_of side (seen ++ (r ∷ [])) ≤ max_entries
    own_entries side t = rw (same_side_lem side r.side t) (few_entries r.side (seen ++ (r ∷ [])) few)

-- ---- from no fault to what holds

pub free_from : (seen rs : List TagRecord) (last : Result ⊤ Refusal) → FaultFree seen → first_fault seen rs last ≡ Ok tt
    → FaultFree (seen ++ rs) × (last ≡ Ok tt)
unfolding first_fault
free_from seen [] last so e = (rw append-nil so, e)
free_from seen (r ∷ rs) last so e =
    let both = both_passed (fault_of seen r) (first_fault (seen ++ (r ∷ [])) rs last) e in
    let clear = fault_clear seen r both.0 in
    let rest = free_from (seen ++ (r ∷ [])) rs last (free_step seen r so clear.0 clear.1) both.1 in
    (rw (append_assoc seen (r ∷ []) rs) at rest.0, rest.1)

pub free_nil : FaultFree []
unfolding distinct keep sum insert_all all_tags
free_nil = record { numbers = λ side. refl; places = λ side. omega arith; entries = λ side. omega arith; tags = omega arith }

-- of a file without a fault
pub file_free : (file : List ℕ) → file_fault file ≡ Ok tt → FaultFree (records file)
unfolding file_fault
file_free file clear = (free_from [] (records file) (refusal_of (read_at file (total_length (records file)))) free_nil clear).0

same_self : (side : Side) → same_side side side ≡ true
same_self Left = refl
same_self Right = refl

-- a side's numbers around a record of that side
pub numbers_around : (seen : List TagRecord) (r : TagRecord) (rs : List TagRecord)
    → numbers_of r.side (seen ++ (r ∷ rs)) ≡ numbers_of r.side seen ++ (r.number ∷ numbers_of r.side rs)
unfolding keep
numbers_around seen r rs =
    ap (map (λ s. s.number)) (keep_append (λ s. same_side r.side s.side) seen (r ∷ rs))
    ∙ rw (same_self r.side) (map-append (λ s. s.number) (of_side r.side seen) (r ∷ of_side r.side rs))

-- a record's number was not used before it
pub free_unused : (before : List TagRecord) (r : TagRecord) (after : List TagRecord) → FaultFree (before ++ (r ∷ after))
    → number_used before r ≡ false
free_unused before r after so =
    used_memb before r.side r.number
    ∙ distinct_before (numbers_of r.side before) r.number (numbers_of r.side after)
    (rw (numbers_around before r after) at (so.numbers r.side))
