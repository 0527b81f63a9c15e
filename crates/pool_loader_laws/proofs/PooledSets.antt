-- The pooled records, one by one: if the test found none too long, none is; each tag is a number of 12 bytes and each number one of
-- two bytes if those of both files are.
use mathlib.Core.Path.{◌≡◌, refl, ap, ◌∙◌}
use Prim.Native.Nat.{ℕ, ◌^◌, ◌<◌, ◌≤◌}
use mathlib.Core.List.{List, [], ◌∷◌, ◌++◌, map, append-nil}
use mathlib.Core.Bool.{Bool, true, false, not, ◌&&◌}
use native.Mathlib.Omega.{arith}
use borrow.Author.Tests.{leb-true, le-leb, ltb-false, not-true}
use lib.Dec.{leb, ltb}
use lib.ListN.{length, get_or}
use Rattle.std.specs.Prelude.{Ok}
use Rattle.lists.specs.Lists.{keep, onto, all, distinct}
use Rattle.lists.proofs.Bools.{and_left, and_right, and_both}
use Rattle.lists.proofs.Filtering.{all_keep}
use Rattle.lists.proofs.Throughout.{all_at, all_make, all_append}
use Rattle.sets.specs.Limits.{max_set_length, half_words}
use Rattle.sets.specs.Refusals.{refuse_if}
use Rattle.sets.specs.declared.Side.{Side}
use Rattle.sets.specs.declared.Side.TheVariants.{Left, Right}
use Rattle.sets.specs.declared.Refusal.TheVariants.{Overlong}
use Rattle.sets.proofs.Testing.{both_passed, refuse_passed}
use Rattle.tag_file.specs.Format.{tag_length}
use Rattle.tag_file.specs.Records.{TagRecord, total_length, same_side, of_side, collapse, insert_all, all_tags}
use Rattle.tag_file.specs.Loading.{number_used, numbers_of}
use Rattle.tag_round_trip.proofs.FileRecords.{all_tags_fit}
use Rattle.tag_round_trip.proofs.Printing.{records_fit}
use Rattle.tag_round_trip.proofs.Refilled.{sets_few}
use Rattle.tag_round_trip.proofs.Values.{tags_fit}
use Rattle.pool_loader_spec.specs.Pooling.{same_set, united_with, unmet, pooled, place_after, is_overlong, first_overlong}
use Rattle.pool_loader_spec.proofs.SecondFaults.{and_second}
use Rattle.pool_loader_spec.proofs.Sides.{left_pooled}
use Rattle.tag_containment.proofs.ItemTags.{no_record, record_of}
use Rattle.pool_loader_laws.specs.Borrowers.{tags_of_number, borrower_tags, borrowers}
use Rattle.pool_loader_laws.proofs.ByNumber.{record_side}
use Rattle.pool_loader_laws.proofs.BorrowerTags.{tags_pooled_lem, same_tags, by_number}

-- ---- sets that are not too long

-- what no record of the second file is, where none was found
pub none_overlong : (first : List TagRecord) (base : ℕ) (seen rs : List TagRecord) → first_overlong first base seen rs ≡ Ok tt
    → all (λ r. not (is_overlong first r)) rs ≡ true
unfolding first_overlong all
none_overlong first base seen [] e = refl
none_overlong first base seen (r ∷ rs) e =
    let why = Overlong (place_after base (total_length seen)) in
    let both = both_passed (refuse_if (is_overlong first r) why) (first_overlong first base (seen ++ (r ∷ [])) rs) e in
    and_both (ap not (refuse_passed (is_overlong first r) why both.0))
    (none_overlong first base (seen ++ (r ∷ [])) rs both.1)

-- what holds of the records of each side holds of all
all_sides : (p : TagRecord → Bool) (rs : List TagRecord) → all p (of_side Left rs) ≡ true → all p (of_side Right rs) ≡ true
    → all p rs ≡ true
unfolding all keep
all_sides p [] left right = refl
all_sides p (r ∷ rs) left right = here r.side left right (all_sides p rs)
  where
    here : (s : Side) → all p (onto (same_side Left s) r (of_side Left rs)) ≡ true
        → all p (onto (same_side Right s) r (of_side Right rs)) ≡ true
        → (all p (of_side Left rs) ≡ true → all p (of_side Right rs) ≡ true → all p rs ≡ true)
        → (p r && all p rs) ≡ true
    here Left left right rest =
        and_both (and_left (p r) (all p (of_side Left rs)) left) (rest (and_right (p r) (all p (of_side Left rs)) left) right)
    here Right left right rest =
        and_both (and_left (p r) (all p (of_side Right rs)) right) (rest left (and_right (p r) (all p (of_side Right rs)) right))

-- a borrower's tags in one file
number_few : (rs : List TagRecord) → distinct (numbers_of Right rs) ≡ true → sets_few rs ≡ true → (n : ℕ)
    → length (collapse (tags_of_number rs n)) ≤ max_set_length
unfolding insert_all
number_few rs once few n =
    by_number rs once n
    (λ k within same tags.
    rw tags
    (leb-true (length (collapse (record_of Right rs k).tags)) max_set_length
    (all_at (λ r. leb (length (collapse r.tags)) max_set_length) no_record (of_side Right rs)
    (all_keep (λ r. leb (length (collapse r.tags)) max_set_length) (λ r. same_side Right r.side) rs few) k within)))
    (λ none. rw none (omega arith))

module _ (first second : List TagRecord) (once : distinct (numbers_of Right first) ≡ true)
    (once_more : distinct (numbers_of Right second) ≡ true) (few : sets_few first ≡ true)
    (short : all (λ r. not (is_overlong first r)) second ≡ true) where
  -- a borrower's tags in both files
  borrower_few : (n : ℕ) → length (collapse (borrower_tags first second n)) ≤ max_set_length
  borrower_few n = by_number second once_more n found none
    where
      found : (k : ℕ) → k < length (of_side Right second) → (record_of Right second k).number ≡ n
          → tags_of_number second n ≡ (record_of Right second k).tags
          → length (collapse (borrower_tags first second n)) ≤ max_set_length
      found k within same tags =
          let s = record_of Right second k in
          let right : same_side Right s.side ≡ true = record_side Right second k within in
          let clear : is_overlong first s ≡ false =
          not-true (is_overlong first s)
          (all_at (λ r. not (is_overlong first r)) no_record (of_side Right second)
          (all_keep (λ r. not (is_overlong first r)) (λ r. same_side Right r.side) second short) k within) in
          let own : all_tags (keep (same_set s) first) ≡ tags_of_number first n =
          same_tags first s right ∙ ap (tags_of_number first) same in
          let most : length (collapse (all_tags (keep (same_set s) first) ++ s.tags)) ≤ max_set_length =
          ltb-false max_set_length (length (collapse (all_tags (keep (same_set s) first) ++ s.tags)))
          (and_second (same_side Right s.side) _ clear right) in
          rw (tags, ← own) most

      none : tags_of_number second n ≡ [] → length (collapse (borrower_tags first second n)) ≤ max_set_length
      none e = rw (e, append-nil (tags_of_number first n)) (number_few first once few n)

  pub pooled-sets_few : sets_few (pooled first second) ≡ true
  pooled-sets_few =
      all_sides (λ r. leb (length (collapse r.tags)) max_set_length) (pooled first second)
      (ap (all (λ r. leb (length (collapse r.tags)) max_set_length)) (left_pooled first second)
      ∙ all_keep (λ r. leb (length (collapse r.tags)) max_set_length) (λ r. same_side Left r.side) first few)
      (all_make (λ r. leb (length (collapse r.tags)) max_set_length) no_record (of_side Right (pooled first second))
      (λ k within. at_most k within))
    where
      at_most : (k : ℕ) → k < length (of_side Right (pooled first second))
          → leb (length (collapse (record_of Right (pooled first second) k).tags)) max_set_length ≡ true
      at_most k within =
          let n = get_or (borrowers first second) k 0 in
          ap (λ (tags : List ℕ). leb (length (collapse tags)) max_set_length) (tags_pooled_lem first second once once_more k within)
          ∙ le-leb (length (collapse (borrower_tags first second n))) max_set_length (borrower_few n)

-- ---- tags and numbers

module _ {A : Type 0} (p q : A → Bool) (f : A → A) (keeps : (x : A) → p x ≡ true → q (f x) ≡ true) where
  all_mapped : (xs : List A) → all p xs ≡ true → all q (map f xs) ≡ true
  unfolding all
  all_mapped [] a = refl
  all_mapped (x ∷ xs) a = and_both (keeps x (and_left (p x) (all p xs) a)) (all_mapped xs (and_right (p x) (all p xs) a))

module _ (first second : List TagRecord) where
  pub pooled_fit : records_fit first ≡ true → records_fit second ≡ true → records_fit (pooled first second) ≡ true
  unfolding pooled
  pooled_fit fit more =
      let rights = all_keep (λ r. tags_fit r.tags) (λ r. same_side Right r.side) second more in
      all_append (λ r. tags_fit r.tags) (map (united_with (of_side Right second)) first) (unmet first second)
      (all_mapped (λ r. tags_fit r.tags) (λ r. tags_fit r.tags) (united_with (of_side Right second))
      (λ r own.
      all_append (λ t. ltb t (256 ^ tag_length)) r.tags (all_tags (keep (same_set r) (of_side Right second))) own
      (all_tags_fit (keep (same_set r) (of_side Right second))
      (all_keep (λ s. tags_fit s.tags) (same_set r) (of_side Right second) rights)))
      first fit)
      (all_keep (λ r. tags_fit r.tags) (λ s. not (number_used first s)) (of_side Right second) rights)

  pub pooled_numbers : all (λ r. ltb r.number half_words) first ≡ true → all (λ r. ltb r.number half_words) second ≡ true
      → all (λ r. ltb r.number half_words) (pooled first second) ≡ true
  unfolding pooled
  pooled_numbers low more =
      all_append (λ r. ltb r.number half_words) (map (united_with (of_side Right second)) first) (unmet first second)
      (all_mapped (λ r. ltb r.number half_words) (λ r. ltb r.number half_words) (united_with (of_side Right second))
      (λ r own. own) first low)
      (all_keep (λ r. ltb r.number half_words) (λ s. not (number_used first s)) (of_side Right second)
      (all_keep (λ r. ltb r.number half_words) (λ r. same_side Right r.side) second more))
