-- A pair of files without a fault: the pooled records have no number twice on a side and stay within the limits.
use mathlib.Core.Path.{◌≡◌, sym, ap, ◌∙◌}
use Prim.Native.Nat.{ℕ, ◌<◌, ◌≤◌}
use mathlib.Core.List.{List, [], ◌∷◌, ◌++◌, map}
use mathlib.Core.Bool.{true, false, not}
use native.Mathlib.Omega.{arith}
use lib.ListN.{length, length-map}
use Rattle.std.specs.Prelude.{Ok}
use Rattle.lists.specs.Lists.{memb, distinct}
use Rattle.lists.proofs.Bools.{by_test}
use Rattle.lists.proofs.Mapping.{map_at}
use Rattle.lists.proofs.Membership.{Place, memb_place}
use Rattle.sets.specs.Limits.{max_sets, max_entries}
use Rattle.sets.specs.declared.Side.{Side}
use Rattle.sets.specs.declared.Side.TheVariants.{Left, Right}
use Rattle.tag_file.specs.Records.{TagRecord, records, same_side, of_side, entries_of}
use Rattle.tag_file.specs.Loading.{number_used, too_many, numbers_of}
use Rattle.tag_file.proofs.FaultFree.{FaultFree, few_places, few_entries, few_tags}
use Rattle.tag_round_trip.proofs.Faults.{not_many}
use Rattle.pool_loader_spec.specs.Pooling.{unmet, pooled, second_fault_of, second_fault}
use Rattle.pool_loader_spec.proofs.OneMore.{pooled_none, pooled_left}
use Rattle.pool_loader_spec.proofs.SecondFaults.{clear_few, second_holds, second_numbers}
use Rattle.pool_loader_spec.proofs.Sides.{left_pooled, unmet_side}
use Rattle.tag_containment.proofs.ItemTags.{no_record}
use Rattle.pool_loader_laws.proofs.RecordLists.{distinct_append, distinct_kept}
use Rattle.pool_loader_laws.proofs.ByNumber.{numbers_borrowers, unmet_absent}

-- ---- the second file's records

-- what holds of the second file's records after those of the first: no right set's number twice, and the limits of the pooled
-- side
pub record SecondFree (first second : List TagRecord) : Type 0 where
  pub numbers : distinct (numbers_of Right second) ≡ true
  pub few : too_many Right (pooled first second) ≡ false

few_step : (first : List TagRecord) (base : ℕ) (seen : List TagRecord) (r : TagRecord) → too_many Right (pooled first seen) ≡ false
    → second_fault_of first base seen r ≡ Ok tt → too_many Right (pooled first (seen ++ (r ∷ []))) ≡ false
few_step first base seen r so clear =
    by_test (same_side Right r.side) (λ t. clear_few first base seen r t clear)
    (λ f. ap (too_many Right) (pooled_left first seen r f) ∙ so)

pub second_free : (first : List TagRecord) (base : ℕ) (file : List ℕ) → FaultFree first → second_fault first base file ≡ Ok tt
    → SecondFree first (records file)
second_free first base file so clear =
    record {
      numbers = second_numbers first base file clear;
      few = (second_holds first base file clear (λ seen. too_many Right (pooled first seen) ≡ false) (few_step first base)
          (ap (too_many Right) (pooled_none first) ∙ not_many Right first (so.places Right) (so.entries Right) so.tags)).0;
    }

-- ---- the pooled records have no fault

module _ (first second : List TagRecord) (so : FaultFree first) (more : SecondFree first second) where
  numbers_right : distinct (numbers_of Right (pooled first second)) ≡ true
  numbers_right =
      ap distinct (numbers_borrowers first second)
      ∙ distinct_append (numbers_of Right first) (numbers_of Right (unmet first second)) (so.numbers Right)
      (ap (λ (l : List TagRecord). distinct (map (λ s. s.number) l)) (unmet_side first second)
      ∙ distinct_kept (λ s. s.number) (λ s. not (number_used first s)) (of_side Right second) more.numbers)
      (λ y there.
      apart y (memb_place y (map (λ s. s.number) (unmet first second))
      (ap (λ (l : List TagRecord). memb y (map (λ s. s.number) l)) (sym (unmet_side first second)) ∙ there)))
    where
      apart : (y : ℕ) → Place y (map (λ s. s.number) (unmet first second)) → memb y (numbers_of Right first) ≡ false
      apart y p =
          let long = length-map (unmet first second) (λ s. s.number) in
          let within : p.at < length (unmet first second) = omega (arith, p.below) in
          ap (λ (n : ℕ). memb n (numbers_of Right first))
          (sym (sym (map_at (λ s. s.number) (unmet first second) p.at no_record 0 within) ∙ p.here))
          ∙ unmet_absent first second p.at within

  -- each side's numbers once, and the limits
  pub pooled_free : FaultFree (pooled first second)
  pooled_free =
      record {
        numbers = numbers;
        places = places;
        entries = entries;
        tags = few_tags Right (pooled first second) more.few;
      }
    where
      numbers : (side : Side) → distinct (numbers_of side (pooled first second)) ≡ true
      numbers Left = ap (λ (l : List TagRecord). distinct (map (λ s. s.number) l)) (left_pooled first second) ∙ so.numbers Left
      numbers Right = numbers_right

      places : (side : Side) → length (of_side side (pooled first second)) ≤ max_sets
      places Left = rw (left_pooled first second) (so.places Left)
      places Right = few_places Right (pooled first second) more.few

      entries : (side : Side) → entries_of side (pooled first second) ≤ max_entries
      entries Left = rw (left_pooled first second) (so.entries Left)
      entries Right = few_entries Right (pooled first second) more.few
      -- neither side passes a limit
