-- Pooled records by side: the left sets are those of the first file; the right sets are the first file's, each united with the second's
-- of its number, and then the second's not yet met, as they are.
use mathlib.Core.Path.{◌≡◌, refl, sym, ap, ap₂, ◌∙◌}
use mathlib.Core.List.{List, [], ◌∷◌, ◌++◌, map, append-nil, map-append, map-map}
use mathlib.Core.Bool.{Bool, true, false, not, ◌&&◌}
use Prim.Native.Nat.{ℕ}
use Rattle.lists.specs.Lists.{keep, onto, all}
use Rattle.lists.proofs.Filtering.{keep_append, keep_all, keep_none, keep_same_where, all_kept, all_keep}
use Rattle.sets.specs.declared.Side.{Side}
use Rattle.sets.specs.declared.Side.TheVariants.{Left, Right}
use Rattle.tag_file.specs.Records.{TagRecord, same_side, of_side}
use Rattle.tag_file.specs.Loading.{number_used, numbers_of}
use Rattle.tag_file.proofs.RecordLaws.{same_side_lem}
use Rattle.pool_loader_spec.specs.Pooling.{same_set, united_with, unmet, pooled}
use Rattle.pool_loader_spec.proofs.OneMore.{united_alone}

-- two right sides, and a right side with another
pub right_both : (a b : Side) → same_side Right a ≡ true → same_side Right b ≡ true → same_side a b ≡ true
right_both a b x y = ap (λ (t : Side). same_side t b) (sym (same_side_lem Right a x)) ∙ y

pub right_apart : (a b : Side) → same_side Right a ≡ true → same_side Right b ≡ false → same_side a b ≡ false
right_apart a b x y = ap (λ (t : Side). same_side t b) (sym (same_side_lem Right a x)) ∙ y

left_apart : (a b : Side) → same_side Left a ≡ true → same_side Right b ≡ true → same_side a b ≡ false
left_apart a b x y =
    ap (λ (t : Side). same_side t b) (sym (same_side_lem Left a x)) ∙ ap (same_side Left) (sym (same_side_lem Right b y))

-- the second file's right sets change no left set
united_left : (second : List TagRecord) (r : TagRecord) → same_side Left r.side ≡ true → united_with (of_side Right second) r ≡ r
united_left second r left =
    united_alone (of_side Right second) r
    (keep_same_where (λ s. same_side Right s.side) (same_set r) (λ s. false) (of_side Right second)
    (all_kept (λ s. same_side Right s.side) second)
    (λ s right. rw (left_apart r.side s.side left right))
    ∙ keep_none (λ s. false) (of_side Right second) (λ s. refl))

module _ (first second : List TagRecord) where
  abbrev united : List TagRecord → List TagRecord
  united rs = map (united_with (of_side Right second)) rs

  side_united : (side : Side) (rs : List TagRecord) → of_side side (united rs) ≡ united (of_side side rs)
  unfolding keep
  side_united side [] = refl
  side_united side (r ∷ rs) = kept (same_side side r.side) (side_united side rs)
    where
      kept : (b : Bool) → of_side side (united rs) ≡ united (of_side side rs)
          → onto b (united_with (of_side Right second) r) (of_side side (united rs)) ≡ united (onto b r (of_side side rs))
      kept true e = ap (λ (l : List TagRecord). united_with (of_side Right second) r ∷ l) e
      kept false e = e

  lefts_united : (rs : List TagRecord) → united (of_side Left rs) ≡ of_side Left rs
  unfolding keep
  lefts_united [] = refl
  lefts_united (r ∷ rs) = kept (same_side Left r.side) refl (lefts_united rs)
    where
      kept : (b : Bool) → same_side Left r.side ≡ b → united (of_side Left rs) ≡ of_side Left rs
          → united (onto b r (of_side Left rs)) ≡ onto b r (of_side Left rs)
      kept true left e = ap₂ (λ (q : TagRecord) (l : List TagRecord). q ∷ l) (united_left second r left) e
      kept false left e = e

  -- records not yet met are right sets'
  pub unmet_right : all (λ s. same_side Right s.side) (unmet first second) ≡ true
  unmet_right =
      all_keep (λ s. same_side Right s.side) (λ s. not (number_used first s)) (of_side Right second)
      (all_kept (λ s. same_side Right s.side) second)

  pub unmet_side : of_side Right (unmet first second) ≡ unmet first second
  unmet_side = keep_all (λ s. same_side Right s.side) (unmet first second) unmet_right

  unmet_left : of_side Left (unmet first second) ≡ []
  unmet_left =
      keep_same_where (λ s. same_side Right s.side) (λ s. same_side Left s.side) (λ s. false) (unmet first second) unmet_right
      (λ s right. left_apart Left s.side refl right)
      ∙ keep_none (λ s. false) (unmet first second) (λ s. refl)

  -- left sets are those of the first file
  pub left_pooled : of_side Left (pooled first second) ≡ of_side Left first
  unfolding pooled
  left_pooled =
      keep_append (λ r. same_side Left r.side) (united first) (unmet first second)
      ∙ ap₂ (λ (a b : List TagRecord). a ++ b) (side_united Left first ∙ lefts_united first) unmet_left
      ∙ append-nil (of_side Left first)

  -- right sets are those of the first file, each united with the second's of its number, then those not yet met
  pub right_pooled : of_side Right (pooled first second) ≡ united (of_side Right first) ++ unmet first second
  unfolding pooled
  right_pooled =
      keep_append (λ r. same_side Right r.side) (united first) (unmet first second)
      ∙ ap₂ (λ (a b : List TagRecord). a ++ b) (side_united Right first) unmet_side

  -- their numbers
  pub numbers_pooled : numbers_of Right (pooled first second) ≡ numbers_of Right first ++ map (λ r. r.number) (unmet first second)
  numbers_pooled =
      ap (map (λ (r : TagRecord). r.number)) right_pooled
      ∙ map-append (λ (r : TagRecord). r.number) (united (of_side Right first)) (unmet first second)
      ∙ ap (λ (l : List ℕ). l ++ map (λ (r : TagRecord). r.number) (unmet first second))
      (map-map (λ (r : TagRecord). r.number) (united_with (of_side Right second)) (of_side Right first))
