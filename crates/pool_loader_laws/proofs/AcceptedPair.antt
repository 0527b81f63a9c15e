-- A pooled load that is accepted, by what its contract says of a call: neither file has a fault, no pooled set is too long, the
-- lists have room, and each is filled with what the pooled records give. Of those records: each side's numbers once, the
-- limits, numbers of two bytes, tags of 12 bytes, and no set longer than the greatest length.
use mathlib.Core.Path.{◌≡◌, sym, ap, ◌∙◌}
use Prim.Native.Nat.{ℕ, ◌<◌}
use mathlib.Core.List.{List, []}
use mathlib.Core.Bool.{true, false}
use lib.Dec.{ltb}
use lib.ListN.{length, get_or}
use Rattle.std.specs.Prelude.{Result, Ok}
use Rattle.lists.specs.Lists.{all}
use Rattle.sets.specs.Limits.{half_words}
use Rattle.sets.specs.Lent.{filled_over}
use Rattle.sets.specs.declared.Side.{Side}
use Rattle.sets.specs.declared.Side.TheVariants.{Right}
use Rattle.tag_file.specs.declared.Loaded.{Loaded}
use Rattle.tag_file.specs.declared.Repeats.{Repeats}
use Rattle.tag_file.specs.Records.{total_length, records}
use Rattle.tag_file.specs.Loading.{Lists, too_many, filled, lent_after}
use Rattle.tag_round_trip.specs.Trips.{Fills}
use Rattle.tag_round_trip.proofs.Accepted.{lists_fill}
use Rattle.tag_file.proofs.FaultFree.{FaultFree, file_free}
use Rattle.tag_round_trip.proofs.FileRecords.{file_numbers, file_fit, file_few, Loadable}
use Rattle.tag_round_trip.proofs.Refilled.{sets_few_lem}
use Rattle.pool_loader_spec.specs.Pooling.{pooled_records, pooled_answer, pooled_lists, PooledCall}
use Rattle.pool_loader_spec.proofs.Answers.{Accepted, answer_accepted}
use Rattle.pool_loader_spec.proofs.SecondFaults.{second_covers}
use Rattle.pool_loader_laws.proofs.PooledFaults.{SecondFree, second_free, pooled_free}
use Rattle.pool_loader_laws.proofs.PooledSets.{none_overlong, pooled-sets_few, pooled_fit, pooled_numbers}
use Rattle.sets.specs.declared.Refusal.{Refusal}

-- ---- the lists

-- the seven lists after a call, as one
pub pooled_lists_lem : {first second : List ℕ} {before after : Lists} {answer : Result (Loaded × Repeats) Refusal}
    → PooledCall first second before after answer → after ≡ pooled_lists first second before
pooled_lists_lem c = rw (c.tags, c.left_numbers, c.left_ends, c.left_items, c.right_numbers, c.right_ends, c.right_items)

-- each list filled from its beginning, and as before beyond
pub record FilledLists (part before after : Lists) : Type 0 where
  pub tags : after.tags ≡ filled_over part.tags before.tags
  pub left_numbers : after.left_numbers ≡ filled_over part.left_numbers before.left_numbers
  pub left_ends : after.left_ends ≡ filled_over part.left_ends before.left_ends
  pub left_items : after.left_items ≡ filled_over part.left_items before.left_items
  pub right_numbers : after.right_numbers ≡ filled_over part.right_numbers before.right_numbers
  pub right_ends : after.right_ends ≡ filled_over part.right_ends before.right_ends
  pub right_items : after.right_items ≡ filled_over part.right_items before.right_items

module _ (first second : List ℕ) {before after : Lists} {totals : Loaded} {repeats : Repeats}
    (call : PooledCall first second before after (Ok (totals, repeats))) where
  answer_is : pooled_answer first second before ≡ Ok (totals, repeats)
  answer_is = sym call.answered

  pub pair_accepted : Accepted first second before totals repeats
  pair_accepted = answer_accepted first second before totals repeats answer_is

  pub pair_filled : FilledLists (filled (pooled_records first second)) before after
  pair_filled =
      record {
        tags = call.tags ∙ over (filled (pooled_records first second)).tags before.tags;
        left_numbers = call.left_numbers ∙ over (filled (pooled_records first second)).left_numbers before.left_numbers;
        left_ends = call.left_ends ∙ over (filled (pooled_records first second)).left_ends before.left_ends;
        left_items = call.left_items ∙ over (filled (pooled_records first second)).left_items before.left_items;
        right_numbers = call.right_numbers ∙ over (filled (pooled_records first second)).right_numbers before.right_numbers;
        right_ends = call.right_ends ∙ over (filled (pooled_records first second)).right_ends before.right_ends;
        right_items = call.right_items ∙ over (filled (pooled_records first second)).right_items before.right_items;
      }
    where
      over : (part lent : List ℕ) → lent_after (pooled_answer first second before) part lent ≡ filled_over part lent
      over part lent = ap (λ (a : Result (Loaded × Repeats) Refusal). lent_after a part lent) answer_is

  -- the filled parts hold what the pooled records give
  pub pair_fills : Fills (pooled_records first second) totals after
  pair_fills =
      lists_fill (pooled_records first second) before after (pooled_answer first second before) totals repeats answer_is
      (sym pair_accepted.counts) (pooled_lists_lem call)

  -- ---- the pooled records

  pub first_free : FaultFree (records first)
  first_free = file_free first pair_accepted.clean

  pub pair_second_free : SecondFree (records first) (records second)
  pair_second_free = second_free (records first) (length first) second first_free pair_accepted.clean_second

  -- the second file's records fill it
  pub pair_covers : total_length (records second) ≡ length second
  pair_covers = second_covers (records first) (length first) second pair_accepted.clean_second

  -- each side's numbers once, and the limits
  pub pair_free : FaultFree (pooled_records first second)
  pair_free = pooled_free (records first) (records second) first_free pair_second_free

  -- of files of bytes
  module _ (low : (i : ℕ) → get_or first i 0 < 256) (low_second : (i : ℕ) → get_or second i 0 < 256) where
    pub pair_numbers : all (λ r. ltb r.number half_words) (pooled_records first second) ≡ true
    pair_numbers = pooled_numbers (records first) (records second) (file_numbers first low) (file_numbers second low_second)

    -- and tags of 12 bytes, and sets that are not too long
    pub pair_loadable : Loadable (pooled_records first second)
    pair_loadable =
        record {
          free = pair_free;
          fit = pooled_fit (records first) (records second) (file_fit first low) (file_fit second low_second);
          few =
              pooled-sets_few (records first) (records second) (first_free.numbers Right) pair_second_free.numbers
              (sets_few_lem (records first) (file_few first low))
              (none_overlong (records first) (length first) [] (records second) pair_accepted.short);
        }
