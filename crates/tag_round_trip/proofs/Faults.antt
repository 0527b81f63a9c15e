-- Records of which it holds what a file without a fault says (`FaultFree`) have no fault, in any order.
use mathlib.Core.Path.{◌≡◌, refl, sym, ap, ◌∙◌}
use Prim.Native.Nat.{◌≤◌}
use mathlib.Core.List.{List, [], ◌∷◌, ◌++◌, append_assoc}
use mathlib.Core.Bool.{false}
use native.Mathlib.Nat.{le_trans}
use native.Mathlib.Omega.{arith}
use borrow.Author.Tests.{le-ltb}
use lib.ListN.{length, length-append}
use Rattle.std.specs.Prelude.{Ok}
use Rattle.lists.specs.Lists.{distinct}
use Rattle.lists.proofs.Filtering.{keep_append}
use Rattle.lists.proofs.Summing.{sum_append}
use Rattle.sets.specs.Limits.{max_items, max_sets, max_entries}
use Rattle.sets.specs.declared.Side.{Side}
use Rattle.tag_file.specs.Records.{TagRecord, same_side, of_side, all_tags, tag_table, entries_of}
use Rattle.tag_file.specs.Loading.{too_many, first_fault}
use Rattle.tag_file.proofs.FaultLaws.{fault_none}
use Rattle.tag_file.proofs.FaultFree.{FaultFree, free_unused}
use Rattle.tag_file.proofs.Tables.{insert_all_append, rising-collapse}
use Rattle.tag_round_trip.specs.Rewritten.{rewritten}
use Rattle.tag_round_trip.proofs.Rewriting.{numbers_rewritten, places_rewritten, entries-rewritten, table_rewritten}
use Rattle.tag_round_trip.proofs.Sorted.{insert_all_grows}

all_tags_append : (a b : List TagRecord) → all_tags (a ++ b) ≡ all_tags a ++ all_tags b
unfolding all_tags
all_tags_append [] b = refl
all_tags_append (r ∷ rs) b = rw (all_tags_append rs b) (sym (append_assoc r.tags (all_tags rs) (all_tags b)))

pub not_many : (side : Side) (rs : List TagRecord) → length (of_side side rs) ≤ max_sets → entries_of side rs ≤ max_entries
    → length (tag_table rs) ≤ max_items → too_many side rs ≡ false
unfolding too_many
not_many side rs places entries tags = rw (le-ltb _ _ places, le-ltb _ _ entries, le-ltb _ _ tags)

module _ (a b : List TagRecord) where
  places_grow : (side : Side) → length (of_side side a) ≤ length (of_side side (a ++ b))
  places_grow side =
      rw (keep_append (λ s. same_side side s.side) a b) (rw length-append (omega arith))

  entries_grow : (side : Side) → entries_of side a ≤ entries_of side (a ++ b)
  entries_grow side =
      rw (keep_append (λ s. same_side side s.side) a b, sum_append) (omega arith)

  tags_grow : length (tag_table a) ≤ length (tag_table (a ++ b))
  tags_grow =
      rw (all_tags_append a b, insert_all_append [] (all_tags a) (all_tags b))
      (insert_all_grows (tag_table a) (all_tags b) (rising-collapse (all_tags a)))

pub free_none : (seen rs : List TagRecord) → FaultFree (seen ++ rs) → first_fault seen rs (Ok tt) ≡ Ok tt
unfolding first_fault
free_none seen [] so = refl
free_none seen (r ∷ rs) so =
    let whole : FaultFree ((seen ++ (r ∷ [])) ++ rs) = rw (append_assoc seen (r ∷ []) rs) so in
    let few : too_many r.side (seen ++ (r ∷ [])) ≡ false =
    not_many r.side (seen ++ (r ∷ []))
    (le_trans (places_grow (seen ++ (r ∷ [])) rs r.side) (whole.places r.side))
    (le_trans (entries_grow (seen ++ (r ∷ [])) rs r.side) (whole.entries r.side))
    (le_trans (tags_grow (seen ++ (r ∷ [])) rs) whole.tags) in
    rw (fault_none seen r (free_unused seen r rs so) few) (free_none (seen ++ (r ∷ [])) rs whole)

-- rewritten records have no fault where the records have none
pub free_rewritten : (rs : List TagRecord) → FaultFree rs → FaultFree (rewritten rs)
free_rewritten rs so =
    record {
      numbers = λ side. ap distinct (numbers_rewritten side rs) ∙ so.numbers side;
      places = λ side. rw (places_rewritten side rs) (so.places side);
      entries = λ side. rw (entries-rewritten side rs) (so.entries side);
      tags = rw (table_rewritten rs) so.tags;
    }
