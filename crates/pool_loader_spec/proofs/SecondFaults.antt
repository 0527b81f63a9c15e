-- Faults of the second file, and sets that are too long: each makes zeros of the lists. A second file without fault has each number of a
-- right set once.
use mathlib.Core.Path.{◌≡◌, refl, sym, ap, subst, ◌∙◌}
use mathlib.Core.List.{List, [], ◌∷◌, ◌++◌, map, map-append, append-nil, append_assoc}
use mathlib.Core.Bool.{Bool, true, false, not, ◌&&◌}
use Prim.Native.Nat.{ℕ}
use borrow.Author.Tests.{eqb-true, not-false}
use lib.Dec.{eqb}
use lib.ListN.{length}
use Rattle.std.specs.Prelude.{Result, Err, Ok, ⊤}
use Rattle.lists.specs.Lists.{keep, all, memb, distinct}
use Rattle.lists.proofs.Bools.{and_left, by_test, true-false}
use Rattle.lists.proofs.Distinct.{distinct_last, distinct_before}
use Rattle.lists.proofs.Filtering.{keep_all, all_kept}
use Rattle.lists.proofs.Throughout.{all_front, all_back}
use Rattle.sets.proofs.Testing.{both_passed, refuse_passed}
use Rattle.sets.specs.Refusals.{clears, refuse_if, unless}
use Rattle.sets.specs.declared.Side.{Side}
use Rattle.sets.specs.declared.Side.TheVariants.{Right}
use Rattle.sets.specs.declared.Refusal.{Refusal}
use Rattle.sets.specs.declared.Refusal.TheVariants.{Malformed, NumberUsed, TooMany, Overlong}
use Rattle.tag_file.specs.Records.{TagRecord, total_length, records, same_side, of_side}
use Rattle.tag_file.specs.Loading.{number_used, too_many, numbers_of}
use Rattle.tag_file.proofs.FaultFree.{used_memb, side_other, numbers_own}
use Rattle.tag_file.proofs.FaultLaws.{clearing, clearing_both, clearing_if}
use Rattle.tag_file.proofs.RecordLaws.{same_side_lem}
use Rattle.pool_loader_spec.specs.Pooling.{pooled, place_after, second_fault_of, first_second_fault, second_fault, is_overlong, first_overlong}

-- a left set's record has no fault
pub left_clear : (first : List TagRecord) (base : ℕ) (seen : List TagRecord) (r : TagRecord) → same_side Right r.side ≡ false
    → second_fault_of first base seen r ≡ Ok tt
unfolding second_fault_of
left_clear first base seen r left = rw left refl

-- ---- a fault makes zeros

clearing_second : (first : List TagRecord) (base : ℕ) (seen rs : List TagRecord) (last : Result ⊤ Refusal) → clearing last ≡ true
    → clearing (first_second_fault first base seen rs last) ≡ true
unfolding first_second_fault second_fault_of
clearing_second first base seen [] last e = e
clearing_second first base seen (r ∷ rs) last e =
    clearing_both (second_fault_of first base seen r) (first_second_fault first base (seen ++ (r ∷ [])) rs last)
    (by_test (same_side Right r.side) right left)
    (clearing_second first base (seen ++ (r ∷ [])) rs last e)
  where
    place : ℕ
    place = place_after base (total_length seen)

    tested : (used many : Bool) → clearing (unless Err (refuse_if used (NumberUsed place)) (refuse_if many (TooMany place))) ≡ true
    tested used many =
        clearing_both (refuse_if used (NumberUsed place)) (refuse_if many (TooMany place)) (clearing_if used (NumberUsed place) refl)
        (clearing_if many (TooMany place) refl)

    right : same_side Right r.side ≡ true → clearing (second_fault_of first base seen r) ≡ true
    right t = rw t (tested (number_used seen r) (too_many Right (pooled first (seen ++ (r ∷ [])))))

    left : same_side Right r.side ≡ false → clearing (second_fault_of first base seen r) ≡ true
    left f = ap clearing (left_clear first base seen r f)

pub second_clears : (first : List TagRecord) (base : ℕ) (file : List ℕ) (why : Refusal) → second_fault first base file ≡ Err why
    → clears why ≡ true
unfolding second_fault
second_clears first base file why e =
    let cut = not (eqb (total_length (records file)) (length file)) in
    let place = place_after base (total_length (records file)) in
    sym (ap clearing e)
    ∙ clearing_second first base [] (records file) (refuse_if cut (Malformed place)) (clearing_if cut (Malformed place) refl)

clearing_long : (first : List TagRecord) (base : ℕ) (seen rs : List TagRecord) → clearing (first_overlong first base seen rs) ≡ true
unfolding first_overlong
clearing_long first base seen [] = refl
clearing_long first base seen (r ∷ rs) =
    let place = place_after base (total_length seen) in
    clearing_both (refuse_if (is_overlong first r) (Overlong place)) (first_overlong first base (seen ++ (r ∷ [])) rs)
    (clearing_if (is_overlong first r) (Overlong place) refl) (clearing_long first base (seen ++ (r ∷ [])) rs)

pub long_clears : (first : List TagRecord) (base : ℕ) (seen rs : List TagRecord) (why : Refusal)
    → first_overlong first base seen rs ≡ Err why → clears why ≡ true
long_clears first base seen rs why e = sym (ap clearing e) ∙ clearing_long first base seen rs

-- ---- without a fault

-- what each record without a fault keeps holds of all the file's records; and the reading ended without one
pub second_walk : (first : List TagRecord) (base : ℕ) (P : List TagRecord → Type 0)
    → ((seen : List TagRecord) (r : TagRecord) → P seen → second_fault_of first base seen r ≡ Ok tt → P (seen ++ (r ∷ [])))
    → (seen rs : List TagRecord) (last : Result ⊤ Refusal) → P seen → first_second_fault first base seen rs last ≡ Ok tt
    → P (seen ++ rs) × (last ≡ Ok tt)
unfolding first_second_fault
second_walk first base P step seen [] last so e = (subst P (sym (append-nil seen)) so, e)
second_walk first base P step seen (r ∷ rs) last so e =
    let both = both_passed (second_fault_of first base seen r) (first_second_fault first base (seen ++ (r ∷ [])) rs last) e in
    let rest = second_walk first base P step (seen ++ (r ∷ [])) rs last (step seen r so both.0) both.1 in
    (subst P (append_assoc seen (r ∷ []) rs) rest.0, rest.1)

pub and_second : (a b : Bool) → (a && b) ≡ false → a ≡ true → b ≡ false
and_second true b e t = e
and_second false b e t = true-false t refl

-- a right set's record without a fault
module _ (first : List TagRecord) (base : ℕ) (seen : List TagRecord) (r : TagRecord) (right : same_side Right r.side ≡ true)
    (clear : second_fault_of first base seen r ≡ Ok tt) where
  tests : (number_used seen r ≡ false) × (too_many Right (pooled first (seen ++ (r ∷ []))) ≡ false)
  unfolding second_fault_of
  tests =
      let place = place_after base (total_length seen) in
      let many = too_many Right (pooled first (seen ++ (r ∷ []))) in
      let both = both_passed (refuse_if (number_used seen r) (NumberUsed place)) (refuse_if many (TooMany place)) (rw right at clear) in
      (refuse_passed (number_used seen r) (NumberUsed place) both.0, refuse_passed many (TooMany place) both.1)

  pub clear_unused : number_used seen r ≡ false
  clear_unused = tests.0

  pub clear_few : too_many Right (pooled first (seen ++ (r ∷ []))) ≡ false
  clear_few = tests.1

numbers_step : (first : List TagRecord) (base : ℕ) (seen : List TagRecord) (r : TagRecord) → distinct (numbers_of Right seen) ≡ true
    → second_fault_of first base seen r ≡ Ok tt → distinct (numbers_of Right (seen ++ (r ∷ []))) ≡ true
numbers_step first base seen r so clear = by_test (same_side Right r.side) right left
  where
    right : same_side Right r.side ≡ true → distinct (numbers_of Right (seen ++ (r ∷ []))) ≡ true
    right t =
        ap distinct (numbers_own Right seen r t)
        ∙ distinct_last (numbers_of Right seen) r.number so
        (ap (λ (side : Side). memb r.number (numbers_of side seen)) (same_side_lem Right r.side t)
        ∙ sym (used_memb seen r.side r.number) ∙ clear_unused first base seen r t clear)

    left : same_side Right r.side ≡ false → distinct (numbers_of Right (seen ++ (r ∷ []))) ≡ true
    left f = ap (λ (l : List TagRecord). distinct (map (λ s. s.number) l)) (side_other Right seen r f) ∙ so

module _ (first : List TagRecord) (base : ℕ) (file : List ℕ) (clear : second_fault first base file ≡ Ok tt) where
  abbrev last : Result ⊤ Refusal
  last =
      refuse_if (not (eqb (total_length (records file)) (length file)))
      (Malformed (place_after base (total_length (records file))))

  -- of any property that each record keeps
  pub second_holds : (P : List TagRecord → Type 0)
      → ((seen : List TagRecord) (r : TagRecord) → P seen → second_fault_of first base seen r ≡ Ok tt → P (seen ++ (r ∷ []))) → P []
      → P (records file) × (last ≡ Ok tt)
  unfolding second_fault
  second_holds P step start = second_walk first base P step [] (records file) last start clear

  numbers_all : (distinct (numbers_of Right (records file)) ≡ true) × (last ≡ Ok tt)
  unfolding keep distinct
  numbers_all = second_holds (λ seen. distinct (numbers_of Right seen) ≡ true) (numbers_step first base) refl

  -- each number of a right set is there once
  pub second_numbers : distinct (numbers_of Right (records file)) ≡ true
  second_numbers = numbers_all.0

  -- the records fill the file
  pub second_covers : total_length (records file) ≡ length file
  second_covers =
      eqb-true (total_length (records file)) (length file)
      (not-false (eqb (total_length (records file)) (length file))
      (refuse_passed (not (eqb (total_length (records file)) (length file))) _ numbers_all.1))

  -- none before a record of a right set has its number
  pub second_once : (b : List TagRecord) (s : TagRecord) (a : List TagRecord) → of_side Right (records file) ≡ b ++ (s ∷ a)
      → number_used b s ≡ false
  unfolding all
  second_once b s a split =
      let rights : all (λ q. same_side Right q.side) (b ++ (s ∷ a)) ≡ true =
      ap (all (λ q. same_side Right q.side)) (sym split) ∙ all_kept (λ q. same_side Right q.side) (records file)
      in
      let right : same_side Right s.side ≡ true =
      and_left (same_side Right s.side) (all (λ q. same_side Right q.side) a)
      (all_back (λ q. same_side Right q.side) b (s ∷ a) rights)
      in
      used_memb b s.side s.number
      ∙ ap (λ (side : Side). memb s.number (numbers_of side b)) (sym (same_side_lem Right s.side right))
      ∙ ap (λ (l : List TagRecord). memb s.number (map (λ q. q.number) l))
      (keep_all (λ q. same_side Right q.side) b (all_front (λ q. same_side Right q.side) b (s ∷ a) rights))
      ∙ distinct_before (map (λ q. q.number) b) s.number (map (λ q. q.number) a)
      (ap distinct (sym (map-append (λ (q : TagRecord). q.number) b (s ∷ a)))
      ∙ ap (λ (l : List TagRecord). distinct (map (λ q. q.number) l)) (sym split) ∙ second_numbers)
