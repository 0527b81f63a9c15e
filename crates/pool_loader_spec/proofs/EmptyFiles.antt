-- A pooled load with an empty file: with an empty second file it is the load of the first; of an empty first file the pooled
-- records are the second's right sets.
use mathlib.Core.Path.{◌≡◌, refl, ap, sym, ◌∙◌}
use mathlib.Core.Bool.{true}
use Prim.Native.Nat.{ℕ}
use mathlib.Core.List.{List, [], ◌∷◌}
use native.Mathlib.Nat.{add-zero}
use lib.ListN.{length}
use Rattle.std.specs.Prelude.{Result, Ok}
use Rattle.lists.specs.Lists.{keep, sum, any}
use Rattle.sets.specs.declared.Side.TheVariants.{Left, Right}
use Rattle.tag_file.specs.Records.{TagRecord, records_from, records, of_side}
use Rattle.tag_file.specs.Repeats.{repeats_of, repeat_totals}
use Rattle.tag_file.specs.Loading.{Lists, load_answer, lists_after, LoadCall}
use Rattle.pool_loader_spec.specs.Pooling.{pooled, second_fault, first_second_fault, first_overlong}
use Rattle.pool_loader_spec.specs.Pooling.{pooled_records, pooled_repeats, pooled_answer, pooled_lists, PooledCall}
use Rattle.pool_loader_spec.proofs.OneMore.{pooled_none}
use Rattle.sets.specs.declared.Refusal.{Refusal}
use Rattle.tag_file.specs.declared.Loaded.{Loaded}
use Rattle.tag_file.specs.declared.Repeats.{Repeats}

-- ---- an empty second file

-- a second file without bytes has no fault, and no set that is too long
module _ (rs : List TagRecord) (base : ℕ) where
  pub second_fault_nil : second_fault rs base [] ≡ Ok tt
  unfolding second_fault first_second_fault records_from sum
  second_fault_nil = refl

  pub first_overlong_nil : first_overlong rs base [] (records []) ≡ Ok tt
  unfolding first_overlong records_from
  first_overlong_nil = refl

-- nor does it add repeats
pub pooled_repeats_nil : (rs : List TagRecord) → pooled_repeats rs (records []) ≡ repeat_totals rs
unfolding records_from keep sum
pooled_repeats_nil rs = ap (λ (n : ℕ). record { left = repeats_of Left rs; right = n }) (add-zero (repeats_of Right rs))

module _ (first : List ℕ) where
  pub pooled_records_nil : pooled_records first [] ≡ records first
  unfolding records_from
  pooled_records_nil = pooled_none (records first)

  pub pooled_answer_nil : (lent : Lists) → pooled_answer first [] lent ≡ load_answer first lent
  unfolding pooled_answer load_answer
  pooled_answer_nil lent =
      rw (
        second_fault_nil (records first) (length first),
        first_overlong_nil (records first) (length first),
        pooled_records_nil,
        pooled_repeats_nil (records first),
      )

  pooled_lists_nil : (lent : Lists) → pooled_lists first [] lent ≡ lists_after first lent
  pooled_lists_nil lent = rw (pooled_answer_nil lent, pooled_records_nil)

  module _ {before after : Lists} {answer : Result (Loaded × Repeats) Refusal} where
    -- such a call is a load of the first file, and the other way round
    pub call_nil : PooledCall first [] before after answer → LoadCall first before after answer
    call_nil c =
        let same = pooled_lists_nil before in
        record {
          answered = c.answered ∙ pooled_answer_nil before;
          tags = c.tags ∙ ap (λ (l : Lists). l.tags) same;
          left_numbers = c.left_numbers ∙ ap (λ (l : Lists). l.left_numbers) same;
          left_ends = c.left_ends ∙ ap (λ (l : Lists). l.left_ends) same;
          left_items = c.left_items ∙ ap (λ (l : Lists). l.left_items) same;
          right_numbers = c.right_numbers ∙ ap (λ (l : Lists). l.right_numbers) same;
          right_ends = c.right_ends ∙ ap (λ (l : Lists). l.right_ends) same;
          right_items = c.right_items ∙ ap (λ (l : Lists). l.right_items) same;
        }

    pub nil_call : LoadCall first before after answer → PooledCall first [] before after answer
    nil_call c =
        let same = sym (pooled_lists_nil before) in
        record {
          answered = c.answered ∙ sym (pooled_answer_nil before);
          tags = c.tags ∙ ap (λ (l : Lists). l.tags) same;
          left_numbers = c.left_numbers ∙ ap (λ (l : Lists). l.left_numbers) same;
          left_ends = c.left_ends ∙ ap (λ (l : Lists). l.left_ends) same;
          left_items = c.left_items ∙ ap (λ (l : Lists). l.left_items) same;
          right_numbers = c.right_numbers ∙ ap (λ (l : Lists). l.right_numbers) same;
          right_ends = c.right_ends ∙ ap (λ (l : Lists). l.right_ends) same;
          right_items = c.right_items ∙ ap (λ (l : Lists). l.right_items) same;
        }

-- ---- an empty first file

pub nil_pooled : (ss : List TagRecord) → pooled [] ss ≡ of_side Right ss
unfolding pooled any keep
nil_pooled ss = every (of_side Right ss)
  where
    every : (l : List TagRecord) → keep (λ s. true) l ≡ l
    every [] = refl
    every (s ∷ l) = ap (λ (m : List TagRecord). s ∷ m) (every l)
