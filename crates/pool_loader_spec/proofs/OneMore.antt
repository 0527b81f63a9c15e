-- Pooled records with one more record of the second file: a left set's changes nothing; a right set's not yet met stands behind the
-- others; and else its tags stand behind those of the first file's record with its number.
use Prim.Native.Nat.{ℕ, ◌+◌}
use mathlib.Core.Path.{◌≡◌, refl, sym, ap, ap₂, subst, ◌∙◌}
use mathlib.Core.List.{List, [], ◌∷◌, ◌++◌, map, map-append, append-nil, append_assoc}
use mathlib.Core.Bool.{Bool, true, false, not, ◌&&◌, ◌||◌}
use native.Mathlib.Omega.{arith}
use borrow.Author.Tests.{eqb-true}
use lib.Dec.{eqb}
use lib.ListN.{length}
use Rattle.lists.specs.Lists.{keep, any, onto, memb}
use Rattle.lists.proofs.Bools.{and_left, and_right, or_left, or_right, or_left_false, or_right_false, true-false, eqb_comm, by_test}
use Rattle.lists.proofs.Filtering.{keep_append}
use Rattle.lists.proofs.Membership.{memb_append}
use Rattle.lists.proofs.Throughout.{any_append}
use Rattle.sets.specs.declared.Side.{Side}
use Rattle.sets.specs.declared.Side.TheVariants.{Left, Right}
use Rattle.tag_file.specs.Records.{TagRecord, same_side, of_side, all_tags}
use Rattle.tag_file.specs.Loading.{number_used}
use Rattle.tag_file.proofs.FaultFree.{same_side-sym, side_own, side_other}
use Rattle.tag_file.proofs.RecordLaws.{same_side_lem}
use Rattle.pool_loader_spec.specs.Pooling.{same_set, united_with, unmet, pooled}

-- ---- records of one set

pub same_set_comm : (r s : TagRecord) → same_set r s ≡ same_set s r
same_set_comm r s = ap₂ (λ (a b : Bool). a && b) (same_side-sym r.side s.side) (eqb_comm r.number s.number)

-- a number is used by the records of a set, whichever of them asks
pub used_alike : (l : List TagRecord) (r s : TagRecord) → r.side ≡ s.side → r.number ≡ s.number → number_used l r ≡ number_used l s
used_alike l r s side number =
    ap₂ (λ (a : Side) (n : ℕ). any (λ q. same_side q.side a && eqb q.number n) l) side number

pub used_same : (l : List TagRecord) (r s : TagRecord) → same_set r s ≡ true → number_used l s ≡ number_used l r
used_same l r s e =
    sym (used_alike l r s
    (same_side_lem r.side s.side (and_left (same_side r.side s.side) (eqb r.number s.number) e))
    (eqb-true r.number s.number (and_right (same_side r.side s.side) (eqb r.number s.number) e)))

-- where each record's number is new among those before it, it is so among those behind it
pub used_behind : (before : List TagRecord) (r : TagRecord) (mid after : List TagRecord)
    → ((b : List TagRecord) (q : TagRecord) (a : List TagRecord) → (before ++ (r ∷ mid)) ++ after ≡ b ++ (q ∷ a)
    → number_used b q ≡ false)
    → number_used after r ≡ false
unfolding any
used_behind before r mid [] once = refl
used_behind before r mid (q ∷ after) once =
    let free = once (before ++ (r ∷ mid)) q after refl in
    let apart : same_set r q ≡ false =
    or_left_false (same_set r q) (number_used mid q)
    (or_right_false (number_used before q) (number_used (r ∷ mid) q)
    (sym (any_append (λ s. same_set s q) before (r ∷ mid)) ∙ free))
    in
    let next : (before ++ (r ∷ (mid ++ (q ∷ [])))) ++ after ≡ (before ++ (r ∷ mid)) ++ (q ∷ after) =
    ap (λ (l : List TagRecord). l ++ after) (sym (append_assoc before (r ∷ mid) (q ∷ [])))
    ∙ append_assoc (before ++ (r ∷ mid)) (q ∷ []) after
    in
    rw (same_set_comm q r ∙ apart, used_behind before r (mid ++ (q ∷ [])) after (λ b p a e. once b p a (sym next ∙ e)))

-- no record of a set is kept where its number is not used
pub none_of : (r : TagRecord) (l : List TagRecord) → number_used l r ≡ false → keep (same_set r) l ≡ []
unfolding keep any
none_of r [] e = refl
none_of r (q ∷ l) e =
    rw (same_set_comm r q ∙ or_left_false (same_set q r) (number_used l r) e, none_of r l (or_right_false (same_set q r) (number_used l r) e))

pub used_keep : (p : TagRecord → Bool) (l : List TagRecord) (r : TagRecord) → number_used l r ≡ false → number_used (keep p l) r ≡ false
unfolding keep any
used_keep p [] r e = refl
used_keep p (q ∷ l) r e = by_kept (p q) (used_keep p l r (or_right_false (same_set q r) (number_used l r) e))
  where
    by_kept : (b : Bool) → number_used (keep p l) r ≡ false → number_used (onto b q (keep p l)) r ≡ false
    by_kept true rest = rw (or_left_false (same_set q r) (number_used l r) e, rest)
    by_kept false rest = rest

-- the tags of a record are among those of all
pub memb_around : (before : List TagRecord) (r : TagRecord) (after : List TagRecord) (y : ℕ) → memb y r.tags ≡ true
    → memb y (all_tags (before ++ (r ∷ after))) ≡ true
unfolding all_tags
memb_around [] r after y m = memb_append y r.tags (all_tags after) ∙ or_left (memb y r.tags) (memb y (all_tags after)) m
memb_around (q ∷ before) r after y m =
    memb_append y q.tags (all_tags (before ++ (r ∷ after)))
    ∙ or_right (memb y q.tags) (memb y (all_tags (before ++ (r ∷ after)))) (memb_around before r after y m)

-- a record with more tags behind its own
abbrev pub with_tags : TagRecord → List ℕ → TagRecord
with_tags r tags = record { side = r.side; number = r.number; tags = r.tags ++ tags }

-- with no other of its set a record is as it was
pub united_alone : (others : List TagRecord) (r : TagRecord) → keep (same_set r) others ≡ [] → united_with others r ≡ r
unfolding all_tags
united_alone others r none =
    ap (λ (t : List ℕ). record { side = r.side; number = r.number; tags = t })
    (ap (λ (l : List TagRecord). r.tags ++ all_tags l) none ∙ append-nil r.tags)

pub united_none : (others : List TagRecord) (r : TagRecord) → number_used others r ≡ false → united_with others r ≡ r
united_none others r e = united_alone others r (none_of r others e)

-- nothing is pooled with no records
pub pooled_none : (first : List TagRecord) → pooled first [] ≡ first
unfolding keep any pooled
pooled_none first = append-nil (map (united_with []) first) ∙ alone first
  where
    alone : (l : List TagRecord) → map (united_with []) l ≡ l
    alone [] = refl
    alone (q ∷ l) = ap₂ (λ (r : TagRecord) (rs : List TagRecord). r ∷ rs) (united_none [] q refl) (alone l)

-- ---- one more record of the second file

module _ (others : List TagRecord) (s : TagRecord) where
  pub united_apart : (q : TagRecord) → same_set q s ≡ false → united_with (others ++ (s ∷ [])) q ≡ united_with others q
  unfolding keep
  united_apart q e =
      ap (λ (l : List TagRecord). record { side = q.side; number = q.number; tags = q.tags ++ all_tags l })
      (keep_append (same_set q) others (s ∷ []) ∙ rw (e, append-nil))

  -- records of other sets are as before
  united_others : (l : List TagRecord) → number_used l s ≡ false
      → map (united_with (others ++ (s ∷ []))) l ≡ map (united_with others) l
  unfolding any
  united_others [] e = refl
  united_others (q ∷ l) e =
      ap₂ (λ (r : TagRecord) (rs : List TagRecord). r ∷ rs) (united_apart q (or_left_false (same_set q s) (number_used l s) e))
      (united_others l (or_right_false (same_set q s) (number_used l s) e))

  pub united_one : (r : TagRecord) → number_used others r ≡ false → same_set r s ≡ true
      → united_with (others ++ (s ∷ [])) r ≡ with_tags r s.tags
  unfolding keep all_tags
  united_one r e same =
      let only : keep (same_set r) (others ++ (s ∷ [])) ≡ s ∷ [] =
      keep_append (same_set r) others (s ∷ []) ∙ rw (none_of r others e, same)
      in
      ap (with_tags r) (ap all_tags only ∙ append-nil s.tags)

-- ---- the pooled records with it

module _ (first seen : List TagRecord) (s : TagRecord) where
  -- a left set's record
  pub pooled_left : same_side Right s.side ≡ false → pooled first (seen ++ (s ∷ [])) ≡ pooled first seen
  unfolding keep pooled
  pooled_left e =
      ap (λ (l : List TagRecord). map (united_with l) first ++ keep (λ q. not (number_used first q)) l) (side_other Right seen s e)

  module _ (right : same_side Right s.side ≡ true) where
    unmet_last : unmet first (seen ++ (s ∷ []))
        ≡ unmet first seen ++ keep (λ q. not (number_used first q)) (s ∷ [])
    unmet_last =
        ap (keep (λ q. not (number_used first q))) (side_own Right seen s right)
        ∙ keep_append (λ q. not (number_used first q)) (of_side Right seen) (s ∷ [])

    -- one that the first file has not
    pub pooled_new : number_used first s ≡ false → pooled first (seen ++ (s ∷ [])) ≡ pooled first seen ++ (s ∷ [])
    unfolding keep pooled
    pooled_new e =
        ap₂ (λ (a b : List TagRecord). a ++ b)
        (ap (λ (l : List TagRecord). map (united_with l) first) (side_own Right seen s right) ∙ united_others (of_side Right seen) s first e)
        (unmet_last ∙ rw e)
        ∙ sym (append_assoc (map (united_with (of_side Right seen)) first) (unmet first seen) (s ∷ []))

-- pooled records in which one record stands, and the same with more tags of its set
pub record Grown (was is : List TagRecord) (r : TagRecord) (tags : List ℕ) : Type 0 where
  pub before : List TagRecord
  pub after : List TagRecord
  pub stood : was ≡ before ++ (r ∷ after)
  pub stands : is ≡ before ++ (with_tags r tags ∷ after)

-- one that the first file has: the tags of its record there grow
module _ (before : List TagRecord) (r : TagRecord) (after seen : List TagRecord) (s : TagRecord)
    (right : same_side Right s.side ≡ true) (same : same_set r s ≡ true) (new : number_used seen s ≡ false)
    (once : (b : List TagRecord) (q : TagRecord) (a : List TagRecord) → before ++ (r ∷ after) ≡ b ++ (q ∷ a)
    → number_used b q ≡ false) where
  abbrev ss : List TagRecord
  ss = of_side Right seen

  abbrev first : List TagRecord
  first = before ++ (r ∷ after)

  -- none of its set among the right sets seen, nor among the first file's other records; but it is there
  fresh : number_used ss r ≡ false
  fresh = used_keep (λ q. same_side Right q.side) seen r (sym (used_same seen r s same) ∙ new)

  apart_before : number_used before s ≡ false
  apart_before = used_same before r s same ∙ once before r after refl

  apart_after : number_used after s ≡ false
  apart_after =
      used_same after r s same
      ∙ used_behind before r [] after (λ b q a e. once b q a (sym (append_assoc before (r ∷ []) after) ∙ e))

  there : number_used first s ≡ true
  unfolding any
  there =
      any_append (λ q. same_set q s) before (r ∷ after)
      ∙ or_right (number_used before s) (number_used (r ∷ after) s) (or_left (same_set r s) (number_used after s) same)

  -- it is the only one of its set
  pub met_only : keep (same_set s) first ≡ r ∷ []
  unfolding keep
  met_only =
      keep_append (same_set s) before (r ∷ after)
      ∙ rw (none_of s before apart_before, same_set_comm s r ∙ same, none_of s after apart_after)

  pub pooled_met : Grown (pooled first seen) (pooled first (seen ++ (s ∷ []))) r s.tags
  unfolding keep pooled
  pooled_met =
      let u = united_with ss in
      let kept : unmet first (seen ++ (s ∷ [])) ≡ unmet first seen =
      unmet_last first seen s right ∙ rw (there, append-nil)
      in
      let grew : map (united_with (of_side Right (seen ++ (s ∷ [])))) first ≡ map u before ++ (with_tags r s.tags ∷ map u after) =
      ap (λ (l : List TagRecord). map (united_with l) first) (side_own Right seen s right)
      ∙ map-append (united_with (ss ++ (s ∷ []))) before (r ∷ after)
      ∙ ap₂ (λ (a b : List TagRecord). a ++ b) (united_others ss s before apart_before)
      (ap₂ (λ (q : TagRecord) (l : List TagRecord). q ∷ l) (united_one ss s r fresh same) (united_others ss s after apart_after))
      in
      let was : map u first ≡ map u before ++ (r ∷ map u after) =
      map-append u before (r ∷ after)
      ∙ ap (λ (q : TagRecord). map u before ++ (q ∷ map u after)) (united_none ss r fresh)
      in
      record {
        before = map u before;
        after = map u after ++ unmet first seen;
        stood = ap (λ (l : List TagRecord). l ++ unmet first seen) was
            ∙ append_assoc (map u before) (r ∷ map u after) (unmet first seen);
        stands = ap₂ (λ (a b : List TagRecord). a ++ b) grew kept
            ∙ append_assoc (map u before) (with_tags r s.tags ∷ map u after) (unmet first seen);
      }
