-- A borrower's tags: the pooled record at a place has those of the right set with its number in the first file and in the second. If
-- no number occurs twice, a number is that of one record or of none.
use mathlib.Core.Path.{◌≡◌, sym, ap, subst, ◌∙◌}
use Prim.Native.Nat.{ℕ, ◌+◌, ◌-◌, ◌<◌, ◌≤◌}
use mathlib.Core.List.{List, [], ◌∷◌, append-nil}
use mathlib.Core.Bool.{true, false, not, ◌&&◌}
use native.Mathlib.Omega.{arith}
use borrow.Author.Tests.{ltb-true, ltb-false}
use lib.Dec.{eqb, ltb}
use lib.ListN.{length, get_or, length-map}
use Rattle.lists.specs.Lists.{keep, memb, distinct}
use Rattle.lists.proofs.Bools.{by_test}
use Rattle.lists.proofs.Filtering.{keep-keep}
use Rattle.lists.proofs.Mapping.{map_at}
use Rattle.lists.proofs.Membership.{Place, memb_place}
use Rattle.sets.specs.declared.Side.{Side}
use Rattle.sets.specs.declared.Side.TheVariants.{Right}
use Rattle.tag_file.specs.Records.{TagRecord, same_side, of_side, all_tags}
use Rattle.tag_file.specs.Loading.{number_used, numbers_of}
use Rattle.tag_file.proofs.RecordLaws.{same_side_lem}
use Rattle.pool_loader_spec.specs.Pooling.{same_set, unmet, pooled}
use Rattle.tag_containment.proofs.ItemTags.{no_record, record_of}
use Rattle.pool_loader_laws.specs.Borrowers.{tags_of_number, borrower_tags, borrowers}
use Rattle.pool_loader_laws.proofs.RecordLists.{keep_number, keep_number_kept, none_of}
use Rattle.pool_loader_laws.proofs.ByNumber.{record_side, right_others, places_pooled, pooled_at, pooled_after}
use Rattle.pool_loader_laws.proofs.ByNumber.{number_pooled, unmet_absent}

-- the records of the first file of a right set's number
pub same_tags : (rs : List TagRecord) (s : TagRecord) → same_side Right s.side ≡ true
    → all_tags (keep (same_set s) rs) ≡ tags_of_number rs s.number
same_tags rs s right =
    let e : Right ≡ s.side = same_side_lem Right s.side right in
    ap (λ (side : Side). all_tags (keep (λ r. same_side side r.side && eqb s.number r.number) rs)) (sym e)
    ∙ ap all_tags (sym (keep-keep (λ r. same_side Right r.side) (λ r. eqb s.number r.number) rs))

-- the tags of the one record of a number
sole_tags : (rs : List TagRecord) (n : ℕ) (r : TagRecord) → keep (λ s. eqb n s.number) (of_side Right rs) ≡ r ∷ []
    → tags_of_number rs n ≡ r.tags
unfolding all_tags
sole_tags rs n r one = ap all_tags one ∙ append-nil r.tags

none_tags : (rs : List TagRecord) (n : ℕ) → memb n (numbers_of Right rs) ≡ false → tags_of_number rs n ≡ []
unfolding all_tags
none_tags rs n absent = ap all_tags (none_of (λ s. s.number) n (of_side Right rs) absent)

-- a number is that of one record, or of none
pub by_number : {P : Type 0} (rs : List TagRecord) → distinct (numbers_of Right rs) ≡ true → (n : ℕ)
    → ((k : ℕ) → k < length (of_side Right rs) → (record_of Right rs k).number ≡ n
    → tags_of_number rs n ≡ (record_of Right rs k).tags
    → P)
    → (tags_of_number rs n ≡ [] → P)
    → P
by_number {P} rs once n found none =
    by_test (memb n (numbers_of Right rs)) (λ t. there (memb_place n (numbers_of Right rs) t)) (λ f. none (none_tags rs n f))
  where
    there : Place n (numbers_of Right rs) → P
    there p =
        let long = length-map (of_side Right rs) (λ s. s.number) in
        let within : p.at < length (of_side Right rs) = omega (arith, p.below) in
        let same : (record_of Right rs p.at).number ≡ n =
        sym (map_at (λ s. s.number) (of_side Right rs) p.at no_record 0 within) ∙ p.here in
        found p.at within same
        (ap (tags_of_number rs) (sym same)
        ∙ sole_tags rs (record_of Right rs p.at).number (record_of Right rs p.at)
        (keep_number (λ s. s.number) no_record (of_side Right rs) once p.at within))

module _ (first second : List TagRecord) (once : distinct (numbers_of Right first) ≡ true)
    (once_more : distinct (numbers_of Right second) ≡ true) where
  -- at a place of the first file
  tags_at_lem : (k : ℕ) → k < length (of_side Right first)
      → (record_of Right (pooled first second) k).tags ≡ borrower_tags first second (record_of Right (pooled first second) k).number
  tags_at_lem k within =
      let r = record_of Right first k in
      let own = sole_tags first r.number r (keep_number (λ s. s.number) no_record (of_side Right first) once k within) in
      rw (pooled_at first second k within, right_others second r (record_side Right first k within), own)

  -- at a place after them
  tags_after : (k : ℕ) → k < length (unmet first second)
      → (get_or (unmet first second) k no_record).tags ≡ borrower_tags first second (get_or (unmet first second) k no_record).number
  tags_after k within =
      let u = get_or (unmet first second) k no_record in
      let none : tags_of_number first u.number ≡ [] = none_tags first u.number (unmet_absent first second k within) in
      let own = sole_tags second u.number u
      (keep_number_kept (λ s. s.number) (λ s. not (number_used first s)) no_record (of_side Right second) once_more k within) in
      rw (none, own)

  -- the tags at a place are those of its borrower in either file
  pub tags_pooled_lem : (k : ℕ) → k < length (of_side Right (pooled first second))
      → (record_of Right (pooled first second) k).tags ≡ borrower_tags first second (get_or (borrowers first second) k 0)
  tags_pooled_lem k within =
      by_test (ltb k (length (of_side Right first))) (λ t. tags_at_lem k (ltb-true k (length (of_side Right first)) t))
      (λ f. later (ltb-false k (length (of_side Right first)) f))
      ∙ ap (borrower_tags first second) (number_pooled first second k within)
    where
      later : length (of_side Right first) ≤ k
          → (record_of Right (pooled first second) k).tags
          ≡ borrower_tags first second (record_of Right (pooled first second) k).number
      later past =
          let j = k - length (of_side Right first) in
          let many = places_pooled first second in
          let same : length (of_side Right first) + j ≡ k = omega arith in
          subst
          (λ (n : ℕ). (record_of Right (pooled first second) n).tags
          ≡ borrower_tags first second (record_of Right (pooled first second) n).number)
          same (rw (pooled_after first second j) (tags_after j (omega arith)))
