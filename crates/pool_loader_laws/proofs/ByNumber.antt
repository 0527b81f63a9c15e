-- The pooled right sets by place and number: one of the first file has its own tags and those of the second file's right set of its
-- number; then come the second file's right sets not yet met, as they are.
use mathlib.Core.Path.{◌≡◌, sym, ap, ◌∙◌}
use Prim.Native.Nat.{ℕ, ◌+◌, ◌<◌}
use mathlib.Core.List.{List, ◌++◌, map}
use mathlib.Core.Bool.{true, false, not}
use native.Mathlib.Omega.{arith}
use borrow.Author.Tests.{not-true}
use lib.Dec.{eqb}
use lib.ListN.{length, get_or, length-append, length-map, get_or-append}
use lib.Seq.{get_or-append-add}
use Rattle.lists.specs.Lists.{keep, memb}
use Rattle.lists.proofs.Filtering.{keep_same_where, all_kept}
use Rattle.lists.proofs.Mapping.{map_at}
use Rattle.lists.proofs.Throughout.{all_at}
use Rattle.sets.specs.declared.Side.{Side}
use Rattle.sets.specs.declared.Side.TheVariants.{Right}
use Rattle.tag_file.specs.Records.{TagRecord, same_side, of_side, all_tags}
use Rattle.tag_file.specs.Loading.{number_used, numbers_of}
use Rattle.tag_file.proofs.RecordLaws.{same_side_lem}
use Rattle.tag_file.proofs.FaultFree.{used_memb}
use Rattle.pool_loader_spec.specs.Pooling.{same_set, united_with, unmet, pooled}
use Rattle.pool_loader_spec.proofs.Sides.{right_both, unmet_right, unmet_side, right_pooled, numbers_pooled}
use Rattle.tag_containment.proofs.ItemTags.{no_record, record_of}
use Rattle.pool_loader_laws.specs.Borrowers.{tags_of_number, borrowers}

-- the record at a place of a side is of that side
pub record_side : (side : Side) (rs : List TagRecord) (k : ℕ) → k < length (of_side side rs)
    → same_side side (record_of side rs k).side ≡ true
record_side side rs k within =
    all_at (λ r. same_side side r.side) no_record (of_side side rs) (all_kept (λ r. same_side side r.side) rs) k within

-- ---- one record united with others

-- the right sets of the second file, which alone are pooled
module _ (second : List TagRecord) (r : TagRecord) where
  -- a right set's record has the tags of the second file's right set of its number
  pub right_others : same_side Right r.side ≡ true
      → all_tags (keep (same_set r) (of_side Right second)) ≡ tags_of_number second r.number
  right_others mine =
      ap all_tags
      (keep_same_where (λ s. same_side Right s.side) (same_set r) (λ s. eqb r.number s.number) (of_side Right second)
      (all_kept (λ s. same_side Right s.side) second)
      (λ s right. rw (right_both r.side s.side mine right)))

-- ---- the pooled records by place

module _ (first second : List TagRecord) where
  abbrev united : List TagRecord → List TagRecord
  united rs = map (united_with (of_side Right second)) rs

  -- places: the numbers follow the first file, then the second's not yet met
  pub numbers_borrowers : numbers_of Right (pooled first second) ≡ borrowers first second
  numbers_borrowers =
      numbers_pooled first second
      ∙ ap (λ (l : List TagRecord). numbers_of Right first ++ map (λ r. r.number) l) (sym (unmet_side first second))

  pub places_pooled : length (of_side Right (pooled first second)) ≡ length (of_side Right first) + length (unmet first second)
  places_pooled =
      ap length (right_pooled first second) ∙ length-append (united (of_side Right first)) (unmet first second)
      ∙ rw (length-map (of_side Right first) (united_with (of_side Right second)))

  -- the record at a place of the first file
  pub pooled_at : (k : ℕ) → k < length (of_side Right first)
      → record_of Right (pooled first second) k ≡ united_with (of_side Right second) (record_of Right first k)
  pooled_at k within =
      let long = length-map (of_side Right first) (united_with (of_side Right second)) in
      ap (λ (l : List TagRecord). get_or l k no_record) (right_pooled first second)
      ∙ get_or-append (united (of_side Right first)) (unmet first second) no_record k (omega arith)
      ∙ map_at (united_with (of_side Right second)) (of_side Right first) k no_record no_record within

  -- the record at a place after those of the first file
  pub pooled_after : (k : ℕ)
      → record_of Right (pooled first second) (length (of_side Right first) + k) ≡ get_or (unmet first second) k no_record
  pooled_after k =
      let long = length-map (of_side Right first) (united_with (of_side Right second)) in
      ap (λ (l : List TagRecord). get_or l (length (of_side Right first) + k) no_record) (right_pooled first second)
      ∙ ap (λ (n : ℕ). get_or (united (of_side Right first) ++ unmet first second) (n + k) no_record) (sym long)
      ∙ get_or-append-add (united (of_side Right first)) (unmet first second) k no_record

  -- the number of a set not yet met is none of the first file's
  pub unmet_absent : (k : ℕ) → k < length (unmet first second)
      → memb (get_or (unmet first second) k no_record).number (numbers_of Right first) ≡ false
  unmet_absent k within =
      let u = get_or (unmet first second) k no_record in
      let right : same_side Right u.side ≡ true =
      all_at (λ s. same_side Right s.side) no_record (unmet first second) (unmet_right first second) k within in
      let new : number_used first u ≡ false =
      not-true (number_used first u)
      (all_at (λ s. not (number_used first s)) no_record (unmet first second)
      (all_kept (λ s. not (number_used first s)) (of_side Right second)) k within) in
      ap (λ (side : Side). memb u.number (numbers_of side first)) (same_side_lem Right u.side right)
      ∙ sym (used_memb first u.side u.number) ∙ new

  -- the number at a place
  pub number_pooled : (k : ℕ) → k < length (of_side Right (pooled first second))
      → (record_of Right (pooled first second) k).number ≡ get_or (borrowers first second) k 0
  number_pooled k within =
      sym (map_at (λ r. r.number) (of_side Right (pooled first second)) k no_record 0 within)
      ∙ ap (λ (l : List ℕ). get_or l k 0) numbers_borrowers
