-- One more record of the second file: the words of the slots, whether its pooled set is too long, and the numbers that are noted.
use Rattle.std.proofs.Common.{◌≡◌, ℕ, ◌+◌, ◌<◌, Bool, true, false, cond, ◌&&◌, ◌||◌, eqb, ltb, List, [], ◌∷◌, ◌++◌, length, replicate, sym, refl, ap, ◌∙◌, ap₂, append-nil}
use mathlib.Core.Bool.{or-false, or_comm}
use lib.ListN.{length-replicate}
use Rattle.lists.specs.Lists.{keep, any}
use Rattle.lists.proofs.Bools.{eqb_comm}
use Rattle.lists.proofs.Throughout.{any_append}
use Rattle.bit_sets.specs.BitSets.{member, Inserted}
use Rattle.bit_sets.proofs.Members.{no_member}
use Rattle.sets.specs.Limits.{max_set_length, half_words}
use Rattle.sets.specs.declared.Side.{Side}
use Rattle.sets.specs.declared.Side.TheVariants.{Right}
use Rattle.tag_file.specs.Records.{TagRecord, total_length, same_side, of_side, all_tags, collapse}
use Rattle.tag_file.specs.Loading.{number_used}
use Rattle.tag_file.proofs.FaultFree.{same_side-sym, side_own, side_other}
use Rattle.tag_file.proofs.RecordLaws.{same_side_lem}
use Rattle.pool_loader_spec.specs.Pooling.{same_set, united_with, is_overlong}
use Rattle.pool_loader_spec.proofs.OneMore.{none_of, used_keep, united_apart, united_one, same_set_comm}
use Rattle.pool_scan.specs.right_slots.Slots.{number_words, slot_word, pooled_mark}

-- ---- whether a number is used, with one more record

pub used_last : (seen : List TagRecord) (s r : TagRecord) → number_used (seen ++ (s ∷ [])) r ≡ (number_used seen r || same_set s r)
unfolding any
used_last seen s r =
    any_append (λ q. same_set q r) seen (s ∷ []) ∙ ap (λ (b : Bool). number_used seen r || b) (or-false (same_set s r))

module _ (seen : List TagRecord) (s : TagRecord) where
  -- ---- the words of the slots

  -- of another set
  pub word_apart : (before : List TagRecord) (r : TagRecord) → same_set r s ≡ false
      → slot_word (seen ++ (s ∷ [])) before r ≡ slot_word seen before r
  word_apart before r e = by_side (same_side Right s.side) refl
    where
      word : Bool → List TagRecord → ℕ
      word b others = cond b (pooled_mark + length (collapse (united_with others r).tags)) (total_length before)

      used : number_used (seen ++ (s ∷ [])) r ≡ number_used seen r
      used = used_last seen s r ∙ rw (same_set_comm s r ∙ e) (or-false (number_used seen r))

      by_side : (b : Bool) → same_side Right s.side ≡ b → slot_word (seen ++ (s ∷ [])) before r ≡ slot_word seen before r
      by_side true right =
          ap₂ (λ (b : Bool) (q : TagRecord). cond b (pooled_mark + length (collapse q.tags)) (total_length before)) used
          (ap (λ (l : List TagRecord). united_with l r) (side_own Right seen s right) ∙ united_apart (of_side Right seen) s r e)
      by_side false left =
          ap₂ (λ (b : Bool) (l : List TagRecord). cond b (pooled_mark + length (collapse (united_with l r).tags)) (total_length before))
          used (side_other Right seen s left)

  -- of the same set, the first that is pooled with it
  pub word_met : (before : List TagRecord) (r : TagRecord) → same_side Right s.side ≡ true → same_set r s ≡ true
      → number_used seen r ≡ false
      → slot_word (seen ++ (s ∷ [])) before r ≡ pooled_mark + length (collapse (r.tags ++ s.tags))
  word_met before r right same new =
      let used : number_used (seen ++ (s ∷ [])) r ≡ true = used_last seen s r ∙ rw (new, same_set_comm s r ∙ same) in
      ap₂ (λ (b : Bool) (q : TagRecord). cond b (pooled_mark + length (collapse q.tags)) (total_length before)) used
      (ap (λ (l : List TagRecord). united_with l r) (side_own Right seen s right)
      ∙ united_one (of_side Right seen) s r (used_keep (λ q. same_side Right q.side) seen r new) same)

-- with none seen each word is a place
pub word_start : (before : List TagRecord) (r : TagRecord) → slot_word [] before r ≡ total_length before
unfolding any
word_start before r = refl

-- ---- whether the pooled set of a record is too long

module _ (first : List TagRecord) (s : TagRecord) where
  pub long_left : same_side Right s.side ≡ false → is_overlong first s ≡ false
  long_left e = rw e

  pub long_of : (own : List ℕ) → same_side Right s.side ≡ true → all_tags (keep (same_set s) first) ≡ own
      → is_overlong first s ≡ ltb max_set_length (length (collapse (own ++ s.tags)))
  long_of own right is = rw (right, is)

pub own_none : (first : List TagRecord) (s : TagRecord) → number_used first s ≡ false → all_tags (keep (same_set s) first) ≡ []
unfolding all_tags
own_none first s e = ap all_tags (none_of s first e)

pub own_one : (first : List TagRecord) (s r : TagRecord) → keep (same_set s) first ≡ r ∷ [] → all_tags (keep (same_set s) first) ≡ r.tags
unfolding all_tags
own_one first s r e = ap all_tags e ∙ append-nil r.tags

-- ---- the numbers of the right sets seen

pub record RightNoted (used : List ℕ) (seen : List TagRecord) : Type 0 where
  pub wide : length used ≡ number_words
  pub at : (x : ℕ) → x < half_words → member used x ≡ any (λ s. same_side s.side Right && eqb s.number x) seen

pub noted_start : RightNoted (replicate number_words 0) []
unfolding any
noted_start = record { wide = length-replicate {A = ℕ} number_words 0; at = λ x h. no_member number_words x }

module _ {used : List ℕ} {seen : List TagRecord} (n : RightNoted used seen) (s : TagRecord) where
  by_right : same_side Right s.side ≡ true → s.side ≡ Right
  by_right e = sym (same_side_lem Right s.side e)

  pub noted_tells : same_side Right s.side ≡ true → s.number < half_words → member used s.number ≡ number_used seen s
  noted_tells right small =
      n.at s.number small
      ∙ ap (λ (t : Side). any (λ q. same_side q.side t && eqb q.number s.number) seen) (sym (by_right right))

  pub noted_left : same_side Right s.side ≡ false → RightNoted used (seen ++ (s ∷ []))
  unfolding any
  noted_left left =
      record {
        wide = n.wide;
        at = λ x h. n.at x h ∙ sym (or-false (any (λ q. same_side q.side Right && eqb q.number x) seen))
            ∙ ap (λ (b : Bool). any (λ q. same_side q.side Right && eqb q.number x) seen || b) (sym (other x))
            ∙ sym (any_append (λ q. same_side q.side Right && eqb q.number x) seen (s ∷ []));
      }
    where
      other : (x : ℕ) → any (λ q. same_side q.side Right && eqb q.number x) (s ∷ []) ≡ false
      other x = rw (same_side-sym s.side Right ∙ left)

  pub noted_right : {is : List ℕ} → same_side Right s.side ≡ true → Inserted used s.number is → RightNoted is (seen ++ (s ∷ []))
  unfolding any
  noted_right right i =
      record {
        wide = i.size ∙ n.wide;
        at = λ x h. i.holds x ∙ ap₂ (λ (a b : Bool). a || b) (this x) (n.at x h)
            ∙ or_comm (any (λ q. same_side q.side Right && eqb q.number x) (s ∷ []))
            (any (λ q. same_side q.side Right && eqb q.number x) seen)
            ∙ sym (any_append (λ q. same_side q.side Right && eqb q.number x) seen (s ∷ []));
      }
    where
      this : (x : ℕ) → eqb x s.number ≡ any (λ q. same_side q.side Right && eqb q.number x) (s ∷ [])
      this x =
          let whole : (same_side s.side Right && eqb s.number x) ≡ eqb s.number x = rw (by_right right) in
          eqb_comm x s.number ∙ sym whole ∙ sym (or-false (same_side s.side Right && eqb s.number x))
