-- The items of a set of the first file with what records of the second add to it. And of any list: around an element that is kept.
use mathlib.Core.Path.{◌≡◌, refl, sym, ap, ◌∙◌}
use mathlib.Core.List.{List, [], ◌∷◌, ◌++◌, append_assoc}
use mathlib.Core.Bool.{Bool, true, false}
use Prim.Native.Nat.{ℕ, ◌≤◌}
use native.Mathlib.Omega.{arith}
use lib.ListN.{length, get_or}
use Rattle.lists.specs.Lists.{onto, keep, any, memb, upto}
use Rattle.lists.proofs.Bools.{or_left}
use Rattle.lists.proofs.Membership.{memb_append}
use Rattle.lists.proofs.Counting.{count_le}
use Rattle.lists.proofs.Filtering.{keep_append, length-keep}
use Rattle.tag_file.specs.Records.{TagRecord, all_tags, items_of}
use Rattle.tag_file.specs.Loading.{number_used}
use Rattle.pool_loader_spec.specs.Pooling.{same_set, united_with}
use Rattle.pool_loader_spec.proofs.OneMore.{none_of, united_none, united_apart, united_one}

-- ---- a list around an element that is kept

pub keep_around : {A : Type 0} (p : A → Bool) (xs : List A) (x : A) (ys : List A) → p x ≡ true
    → keep p (xs ++ (x ∷ ys)) ≡ keep p xs ++ (x ∷ keep p ys)
unfolding keep
keep_around {A} p xs x ys h =
    keep_append p xs (x ∷ ys) ∙ ap (λ (b : Bool). keep p xs ++ onto b x (keep p ys)) h

pub keep_without : {A : Type 0} (p : A → Bool) (xs : List A) (x : A) (ys : List A) → p x ≡ false
    → keep p (xs ++ (x ∷ ys)) ≡ keep p xs ++ keep p ys
unfolding keep
keep_without {A} p xs x ys h =
    keep_append p xs (x ∷ ys) ∙ ap (λ (b : Bool). keep p xs ++ onto b x (keep p ys)) h

-- ---- the items of a set with what other records add

abbrev pub part_of : List ℕ → List TagRecord → TagRecord → List ℕ
part_of table seen r = items_of table (united_with seen r).tags

module _ (table : List ℕ) where
  pub part_alone : (seen : List TagRecord) (r : TagRecord) → number_used seen r ≡ false
      → part_of table seen r ≡ items_of table r.tags
  part_alone seen r h = ap (λ (q : TagRecord). items_of table q.tags) (united_none seen r h)

  pub part_none : (r : TagRecord) → part_of table [] r ≡ items_of table r.tags
  unfolding any
  part_none r = part_alone [] r refl

  -- one record more, of another set or of this
  pub part_other : (seen : List TagRecord) (s r : TagRecord) → same_set r s ≡ false
      → part_of table (seen ++ (s ∷ [])) r ≡ part_of table seen r
  part_other seen s r h = ap (λ (q : TagRecord). items_of table q.tags) (united_apart seen s r h)

  pub part_met : (seen : List TagRecord) (s r : TagRecord) → same_set r s ≡ true → number_used seen r ≡ false
      → part_of table (seen ++ (s ∷ [])) r ≡ items_of table (r.tags ++ s.tags)
  part_met seen s r h out = ap (λ (q : TagRecord). items_of table q.tags) (united_one seen s r out h)

  -- more tags, no fewer items
  pub items_more : (a b : List ℕ) → length (items_of table a) ≤ length (items_of table (a ++ b))
  unfolding items_of
  items_more a b =
      omega (
        arith,
        length-keep (λ i. memb (get_or table i 0) a) (upto (length table)),
        length-keep (λ i. memb (get_or table i 0) (a ++ b)) (upto (length table)),
        count_le (λ i. memb (get_or table i 0) a) (λ i. memb (get_or table i 0) (a ++ b)) (upto (length table))
            (λ i t. memb_append (get_or table i 0) a b ∙ or_left (memb (get_or table i 0) a) (memb (get_or table i 0) b) t),
      )

  pub part_fits : (all : List TagRecord) (r : TagRecord) → length (part_of table [] r) ≤ length (part_of table all r)
  part_fits all r = omega (arith, ap length (part_none r), items_more r.tags (all_tags (keep (same_set r) all)))

  pub met_fits : (seen : List TagRecord) (s : TagRecord) (later : List TagRecord) (r : TagRecord) → same_set r s ≡ true
      → number_used seen r ≡ false
      → length (items_of table (r.tags ++ s.tags)) ≤ length (part_of table (seen ++ (s ∷ later)) r)
  unfolding all_tags
  met_fits seen s later r h out =
      let whole : part_of table (seen ++ (s ∷ later)) r ≡ items_of table ((r.tags ++ s.tags) ++ all_tags (keep (same_set r) later)) =
      ap (λ (l : List TagRecord). items_of table (r.tags ++ all_tags l))
      (keep_around (same_set r) seen s later h
      ∙ ap (λ (l : List TagRecord). l ++ (s ∷ keep (same_set r) later)) (none_of r seen out))
      ∙ ap (items_of table) (sym (append_assoc r.tags s.tags (all_tags (keep (same_set r) later)))) in
      omega (arith, ap length whole, items_more (r.tags ++ s.tags) (all_tags (keep (same_set r) later)))
