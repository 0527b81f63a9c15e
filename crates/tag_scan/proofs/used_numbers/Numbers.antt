-- The numbers that records used: the bit set that notes them, with its start and step.
use mathlib.Core.Path.{◌≡◌, sym, ap₂, ◌∙◌}
use mathlib.Core.List.{List, [], ◌∷◌, ◌++◌}
use mathlib.Core.Bool.{Bool, ◌&&◌, ◌||◌, or-false, or_comm}
use Prim.Native.Nat.{ℕ, ◌+◌, ◌*◌, ◌<◌}
use native.Mathlib.Omega.{arith}
use borrow.Author.Tests.{eq-eqb, ne_eqb, eqb-true}
use lib.Dec.{eqb}
use lib.ListN.{length, replicate, length-replicate}
use Rattle.lists.specs.Lists.{any}
use Rattle.lists.proofs.Bools.{same_test}
use Rattle.lists.proofs.Throughout.{any_append}
use Rattle.bit_sets.specs.BitSets.{member, Inserted}
use Rattle.bit_sets.proofs.Members.{no_member}
use Rattle.sets.specs.Limits.{half_words}
use Rattle.sets.specs.declared.Side.{Side}
use Rattle.sets.specs.declared.Side.TheVariants.{Left, Right}
use Rattle.tag_file.specs.Records.{TagRecord, same_side}
use Rattle.tag_file.specs.Loading.{number_used}
use Rattle.tag_scan.specs.used_numbers.Keys.{used_words, key_of}

pub key_bound : (side : Side) (number : ℕ) → number < half_words → key_of side number < 64 * used_words
key_bound Left number h = omega arith
key_bound Right number h = omega arith

-- whether a side used a number
abbrev pub used_by : Side → ℕ → List TagRecord → Bool
used_by side number seen = any (λ s. same_side s.side side && eqb s.number number) seen

-- a bit set notes the numbers of the records seen
pub record Noted (used : List ℕ) (seen : List TagRecord) : Type 0 where
  pub wide : length used ≡ used_words
  pub at : (side : Side) (number : ℕ) → number < half_words → member used (key_of side number) ≡ used_by side number seen

pub noted_start : Noted (replicate used_words 0) []
unfolding any
noted_start = record { wide = length-replicate {A = ℕ} used_words 0; at = λ side number h. no_member used_words (key_of side number) }

-- two keys are the same where side and number are
same_key : (s t : Side) (m n : ℕ) → m < half_words → n < half_words → eqb (key_of t n) (key_of s m) ≡ (same_side s t && eqb m n)
same_key Left Left m n hm hn =
    same_test (eqb n m) (eqb m n) (λ t. eq-eqb m n (sym (eqb-true n m t))) (λ t. eq-eqb n m (sym (eqb-true m n t)))
same_key Left Right m n hm hn = ne_eqb (half_words + n) m (λ e. omega arith)
same_key Right Left m n hm hn = ne_eqb n (half_words + m) (λ e. omega arith)
same_key Right Right m n hm hn =
    same_test (eqb (half_words + n) (half_words + m)) (eqb m n)
    (λ t. eq-eqb m n (omega (arith, eqb-true (half_words + n) (half_words + m) t)))
    (λ t. eq-eqb (half_words + n) (half_words + m) (omega (arith, eqb-true m n t)))

pub noted_step : {used is : List ℕ} {seen : List TagRecord} (r : TagRecord) → r.number < half_words → Noted used seen
    → Inserted used (key_of r.side r.number) is → Noted is (seen ++ (r ∷ []))
unfolding any
noted_step {used} {is} {seen} r small n i =
    record {
      wide = i.size ∙ n.wide;
      at = λ side number h. i.holds (key_of side number)
          ∙ ap₂ (λ (a b : Bool). a || b)
          (same_key r.side side r.number number small h
          ∙ sym (or-false (same_side r.side side && eqb r.number number)))
          (n.at side number h)
          ∙ or_comm (any (λ s. same_side s.side side && eqb s.number number) (r ∷ [])) (used_by side number seen)
          ∙ sym (any_append (λ s. same_side s.side side && eqb s.number number) seen (r ∷ []));
    }

-- what the bit set tells of a record
pub noted_tells : {used : List ℕ} {seen : List TagRecord} (r : TagRecord) → r.number < half_words → Noted used seen
    → member used (key_of r.side r.number) ≡ number_used seen r
noted_tells {used} {seen} r small n = n.at r.side r.number small
