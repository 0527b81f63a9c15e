-- A file without a fault is one whose right sets can have slots: not too many, each number once, and places that fit.
use Rattle.std.specs.Prelude.{Ok}
use Rattle.std.proofs.Common.{◌≡◌, ℕ, suc, ◌+◌, ◌<◌, ◌≤◌, List, [], ◌∷◌, length, get_or, refl, subst, arith}
use Rattle.lists.specs.Lists.{onto, keep}
use Rattle.sets.specs.Limits.{max_sets, max_set_length}
use Rattle.sets.specs.declared.Side.{Side}
use Rattle.sets.specs.declared.Side.TheVariants.{Left, Right}
use Rattle.tag_file.specs.Records.{TagRecord, total_length, records, same_side, of_side}
use Rattle.tag_file.specs.Loading.{file_fault}
use Rattle.tag_file.proofs.FaultFree.{FaultFree, file_free, free_unused}
use Rattle.tag_file.proofs.FoundRecords.{found_tags, total_length_bound}
use Rattle.pool_scan.specs.right_slots.Slots.{NumbersOnce, Slottable}

-- every record is of one of the sides
length_sides : (rs : List TagRecord) → length rs ≡ length (of_side Left rs) + length (of_side Right rs)
unfolding keep
length_sides [] = refl
length_sides (r ∷ rs) = one_more r.side (length_sides rs)
  where
    one_more : (side : Side) → length rs ≡ length (of_side Left rs) + length (of_side Right rs)
        → suc (length rs)
        ≡ length (onto (same_side Left side) r (of_side Left rs)) + length (onto (same_side Right side) r (of_side Right rs))
    one_more Left e = omega arith
    one_more Right e = omega arith

module _ (file : List ℕ) (clear : file_fault file ≡ Ok tt) where
  free : FaultFree (records file)
  free = file_free file clear

  pub once_accepted : NumbersOnce (records file)
  once_accepted before r after e = free_unused before r after (subst FaultFree e free)

  pub few_accepted : length (of_side Right (records file)) ≤ max_sets
  few_accepted = free.places Right

  module _ (byte : (i : ℕ) → get_or file i 0 < 256) where
    pub short_accepted : total_length (records file) < 2147483648
    short_accepted =
        omega (
          arith,
          total_length_bound (records file) max_set_length (found_tags file byte),
          length_sides (records file),
          free.places Left,
          free.places Right,
        )

    pub slottable : Slottable file
    slottable = record { few = few_accepted; once = once_accepted; short = short_accepted }
