-- The regions of an input that passed the tests and whose rows fit; and what the counters of all left sets give: the answer and the pair
-- list afterwards.
use Prim.Native.Nat.{ℕ, ◌+◌, ◌*◌, ◌<◌, ◌≤◌}
use mathlib.Core.Path.{◌≡◌, sym, ap, ap₂, subst, ◌∙◌}
use mathlib.Core.List.{List, ◌++◌}
use mathlib.Core.Bool.{Bool, cond}
use native.Mathlib.Omega.{arith}
use lib.ListN.{length, drop, replicate}
use Rattle.std.specs.Prelude.{Option, None, Some, Result, Err, Ok}
use Rattle.std.proofs.lemmas.Option.{none-some, same_Some}
use Rattle.lists.proofs.Filling.{sets_front}
use Rattle.sets.specs.Limits.{full_words, max_set_length, max_pairs}
use Rattle.sets.proofs.Good.{good_places}
use Rattle.sets.proofs.Ordered.{items_below}
use Rattle.inputs.specs.Input.{Input}
use Rattle.join_spec.specs.PairList.{pair_list, pair_count}
use Rattle.join_spec.specs.Query.{Query}
use Rattle.join_spec.specs.Walk.{Outcome}
use Rattle.join_spec.specs.Counting.{total, checks_of, counts_of, is_by_path, is_confirmed, is_dropped, is_false}
use Rattle.join_spec.specs.Answer.{walk_answer, pairs_after}
use Rattle.join_spec.proofs.Accepted.{Tests}
use Rattle.join_spec.proofs.Demand.{pairs_met, checks_end, total_small}
use Rattle.join_spec.proofs.PairListLaws.{length-pair_list}
use Rattle.join_check.specs.declared.Tally.{Tally}
use Rattle.join_check.specs.tally_answer.Answering.{SumsFit, tally_counts, tally_answer}
use Rattle.join_check.proofs.tally_answer.AnswerLaws.{counts_same, joined_enough, refused_clears, tally_walk}
use Rattle.merge_rows.specs.declared.Met.{Met}
use Rattle.merge_rows.specs.declared.Regions.{Regions}
use Rattle.merge_rows.specs.Meeting.{Laid, Ground}
use Rattle.merge_rows.specs.Merging.{Sizes, rows_of, merge_query, RowsReady, pairs_to, LeftsRoom, MergeRoom, MetAll, AllMet, tally_of, settled}
use Rattle.merge_rows.proofs.Totals.{total_all, pairs_all}
use Rattle.merge_rows.proofs.LeftSteps.{lefts_few, rights_few}
use Rattle.join_spec.specs.declared.Counts.{Counts}
use Rattle.sets.specs.declared.Refusal.{Refusal}

-- so many items and sets
pub merge_sizes : {i : Input} {limit : ℕ} {ranks : List ℕ} {words : ℕ} → Tests i limit ranks words
    → Sizes i.T (length i.left.ends) (length i.right.ends)
merge_sizes {i} ok =
    record {
      items = ok.settings.few_items;
      left = good_places i.T i.left.ends i.left.items ok.good.left;
      right = good_places i.T i.right.ends i.right.items ok.good.right;
    }

-- the regions
module _ {i : Input} {limit : ℕ} {ranks w : List ℕ} (room : MergeRoom i limit ranks w) where
  module _ {r : Regions} (laid : r ≡ rows_of i.T (length i.left.ends) (length i.right.ends)) where
    pub merge_ready : RowsReady r i w
    merge_ready =
        subst (λ (x : Regions). RowsReady x i w) (sym laid)
        (record {
          few = room.tests.settings.few_items;
          good = room.tests.good.right;
          above = omega arith;
          room = omega (arith, room.room);
        })

    pub merge_room : {v path : List ℕ} → length v ≡ length w → Ground r i.T i.right v → max_set_length ≤ length path
        → LeftsRoom r i limit ranks v path
    merge_room {v} {path} size ground longest =
        record {
          over =
              record {
                words = length w;
                tests = room.tests;
                laid =
                    subst (λ (x : Regions). Laid x i v) (sym laid)
                    (record {
                      counters = omega arith;
                      signatures = omega arith;
                      hints = omega arith;
                      end = omega (arith, room.room, size);
                    });
                ground = ground;
              };
          longest = longest;
        }

-- what all left sets came to, and that the checks passed the budget where it is none
pub met_none : (q : Query) {budget : ℕ} {r : Option Met} (was is : List ℕ) → r ≡ None → AllMet q budget r was is
    → (length is ≡ length was) × (budget < checks_of q)
met_none q {budget} {r} was is none met = subst (λ (x : Option Met). AllMet q budget x was is) none met

pub met_some : {q : Query} {budget : ℕ} {r : Option Met} {was is : List ℕ} {m : Met} → r ≡ Some m → AllMet q budget r was is
    → MetAll q budget m was is
met_some {q} {budget} {r} {was} {is} some met = subst (λ (x : Option Met). AllMet q budget x was is) some met

-- the counters of all left sets
module _ {i : Input} {limit : ℕ} {ranks : List ℕ} {words : ℕ} {budget : ℕ} {m : Met} {was is : List ℕ}
    (ok : Tests i limit ranks words) (done : MetAll (merge_query i limit ranks) budget m was is) where
  abbrev q : Query
  q = merge_query i limit ranks

  all_met : pair_count q.lefts q.rights ≡ total is_by_path q + total is_confirmed q
  all_met =
      pairs_met q ok.settings.permutation (items_below i.T i.left.ends i.left.items ok.good.left)
      (items_below i.T i.right.ends i.right.items ok.good.right)

  small : (kind : Outcome → Bool) → total kind q ≤ max_pairs
  small kind = total_small kind q (lefts_few ok) (rights_few ok)

  twice : m.at ≡ 2 * pair_count q.lefts q.rights
  twice = done.met.at ∙ ap length (pairs_all q) ∙ length-pair_list q.lefts q.rights

  confirmed_is : m.confirmed ≡ total is_confirmed q
  confirmed_is = done.met.confirmed ∙ total_all is_confirmed q

  dropped_is : m.dropped ≡ total is_dropped q
  dropped_is = done.met.dropped ∙ total_all is_dropped q

  falses_is : m.falses ≡ total is_false q
  falses_is = done.met.falses ∙ total_all is_false q

  counts_are : tally_counts (tally_of m) ≡ counts_of q
  counts_are =
      counts_same (omega (arith, twice, all_met, confirmed_is)) (omega (arith, twice, all_met, confirmed_is)) confirmed_is
      (omega (arith, checks_end q, confirmed_is, dropped_is, falses_is)) dropped_is falses_is

  pub merged-fits : SumsFit (Some (tally_of m))
  merged-fits =
      record {
        pairs = λ tally is.
            subst (λ (t : Tally). (tally_counts t).pairs < full_words) (same_Some _ tally is)
            (omega (arith, twice, all_met, confirmed_is, small is_by_path, small is_confirmed));
        checks = λ tally is.
            subst (λ (t : Tally). (tally_counts t).checks < full_words) (same_Some _ tally is)
            (omega (
              arith,
              confirmed_is,
              dropped_is,
              falses_is,
              small is_confirmed,
              small is_dropped,
              small is_false,
            ));
      }

  -- the answer by a tally that is theirs, and by the length of the pair list as it was
  pub merged_tally : {tally : Tally} {answer : Result Counts Refusal} → tally ≡ tally_of m
      → answer ≡ tally_answer (Some tally) (length is) → answer ≡ tally_answer (Some (tally_of m)) (length was)
  merged_tally same answered = answered ∙ ap₂ (λ (t : Tally) (n : ℕ). tally_answer (Some t) n) same done.listed.size

  pub merged_answer : (places : ℕ) {answer : Result Counts Refusal} → answer ≡ tally_answer (Some (tally_of m)) places
      → answer ≡ walk_answer q budget places
  merged_answer places answered =
      answered
      ∙ tally_walk q budget (Some (tally_of m)) places (λ over. absurd (none-some _ (sym over))) (λ tally is. done.calm)
      (λ tally is. subst (λ (t : Tally). tally_counts t ≡ counts_of q) (same_Some _ tally is) counts_are)

  -- the pair list: the pairs stand in it where the answer has counts, and else it is zeros
  pub merged_pairs : (answer : Result Counts Refusal) → answer ≡ tally_answer (Some (tally_of m)) (length was)
      → settled answer is ≡ pairs_after answer (pair_list q.lefts q.rights) was
  merged_pairs (Ok counts) answered =
      let enough = joined_enough (length was) (Some (tally_of m)) (sym answered) in
      let fits : m.at ≤ length was =
      omega (
        arith,
        subst (λ (t : Tally). 2 * (tally_counts t).pairs ≤ length was) (sym (same_Some _ enough.tally enough.is)) enough.room,
        twice,
        all_met,
        confirmed_is,
      )
      in
      done.listed.written fits
      ∙ sets_front (pairs_to q (length q.lefts)) was (omega (arith, fits, done.met.at))
      ∙ ap (λ (l : List ℕ). l ++ drop (length l) was) (pairs_all q)
  merged_pairs (Err why) answered =
      let zeros = refused_clears (length was) (Some (tally_of m)) (sym answered) in
      ap (λ (n : ℕ). replicate n 0) done.listed.size
      ∙ sym (ap (λ (b : Bool). cond b (replicate (length was) 0) was) zeros)
