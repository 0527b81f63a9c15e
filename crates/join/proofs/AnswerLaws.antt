-- After the walk: it can begin over the index that was built, the pairs are those by path and those confirmed, and its counters
-- make the answer.
use Prim.Native.Nat.{ℕ, ◌+◌, ◌*◌, ◌≤◌, ◌<◌}
use mathlib.Core.Path.{◌≡◌, refl, sym, ap, subst, ◌∙◌}
use mathlib.Core.List.{List}
use mathlib.Core.Bool.{Bool}
use native.Mathlib.Omega.{arith}
use lib.ListN.{length}
use Rattle.std.specs.Prelude.{Option, Some, None, MatchOption, IsSomeAnd, Result}
use Rattle.std.proofs.lemmas.Option.{none-some, same_Some}
use Rattle.sets.specs.Limits.{max_pairs, full_words}
use Rattle.sets.proofs.Good.{good_places}
use Rattle.sets.proofs.Ordered.{items_below}
use Rattle.join_spec.specs.declared.Rule.{Rule}
use Rattle.join_spec.specs.PairList.{pair_count}
use Rattle.inputs.specs.Input.{Input}
use Rattle.join_spec.specs.Query.{Settings, Query, query}
use Rattle.join_spec.specs.Walk.{Outcome}
use Rattle.join_spec.specs.Counting.{total, counts_of, is_by_path, is_confirmed, is_dropped, is_false}
use Rattle.join_spec.specs.Kinds.{Kind, is_of, path_pair, confirmed_check, dropped_check, false_check}
use Rattle.join_spec.specs.Answer.{walk_answer}
use Rattle.join_spec.proofs.Demand.{pairs_met, checks_end, total_small}
use Rattle.join_spec.proofs.Accepted.{Tests}
use Rattle.sets.proofs.Between.{length-sets}
use Rattle.inputs.proofs.TestLaws.{words_for_lem}
use Rattle.join_index.specs.build.Building.{BuildRoom}
use Rattle.join_index.specs.Ground.{Ground}
use Rattle.join_index.specs.declared.Layout.{Layout}
use Rattle.join_index.specs.Asking.{Index}
use Rattle.kept_rows.specs.declared.Progress.{Progress}
use Rattle.join_nodes.proofs.FrameLaws.{index_framed}
use Rattle.join_walk.specs.Partitions.{WalkReady, WalkDone}
use Rattle.join_pairs.specs.Writing.{PairsRoom}
use Rattle.join_check.specs.Counters.{counter}
use Rattle.join_check.specs.declared.Tally.{Tally}
use Rattle.join_check.specs.tally_answer.Answering.{SumsFit, tally_counts, tally_answer}
use Rattle.join_check.proofs.tally_answer.AnswerLaws.{counts_same, Enough, joined_enough, refused_clears, tally_walk}
use Rattle.join.specs.Ready.{Accepted}
use Rattle.join.specs.output.Output.{AnswerRoom}
use Rattle.join_spec.specs.declared.Counts.{Counts}
use Rattle.sets.specs.declared.Refusal.{Refusal}

-- the query of an input and the settings that bear on the walk
abbrev pub query_by : Input → ℕ → List ℕ → Rule → Query
query_by i limit ranks rule =
    query i.T i.left.ends i.left.items i.right.ends i.right.items limit ranks rule

module _ {i : Input} {limit : ℕ} {ranks : List ℕ} {words : ℕ} (ok : Tests i limit ranks words) (rule : Rule) where
  abbrev q : Query
  q = query_by i limit ranks rule

  lefts_count : length q.lefts ≡ length i.left.ends
  lefts_count = length-sets 0 i.left.ends i.left.items

  rights_count : length q.rights ≡ length i.right.ends
  rights_count = length-sets 0 i.right.ends i.right.items

  pub all_met : pair_count q.lefts q.rights ≡ total is_by_path q + total is_confirmed q
  all_met =
      pairs_met q ok.settings.permutation (items_below i.T i.left.ends i.left.items ok.good.left)
      (items_below i.T i.right.ends i.right.items ok.good.right)

  small : (is : Outcome → Bool) → total is q ≤ max_pairs
  small is =
      total_small is q
      (omega (arith, lefts_count, good_places i.T i.left.ends i.left.items ok.good.left))
      (omega (arith, rights_count, good_places i.T i.right.ends i.right.items ok.good.right))

  -- the walk over the index that was built
  module _ {lay : Layout} {w : List ℕ}
      (ground : Ground lay q w)
      (room : lay.slots ≤ length w) where
    pub walk_index : Index lay q w
    walk_index = record { ground = ground; room = room }

    pub walk_ready : (budget : ℕ)
        → WalkReady lay (record { limit = limit; rule = rule; budget = budget }) q w (length i.left.ends)
    walk_ready budget =
        record {
          index = walk_index;
          limit = refl;
          shallow = ok.settings.limit_within;
          rule = refl;
          some = positive limit ok.settings.limit_above;
          left_count = lefts_count;
        }
      where
        positive : (n : ℕ) → (n ≡ 0 → ⊥) → 0 < n
        positive n h = omega arith

    pub walk_made : {budget : ℕ} {w' : List ℕ} {r : Option Progress}
        → ((q : Query) → WalkReady lay (record { limit = limit; rule = rule; budget = budget }) q w (length i.left.ends)
        → WalkDone lay q budget w w' r)
        → WalkDone lay q budget w w' r
    walk_made {budget} made = made q (walk_ready budget)

-- the counters of a walk, none where it was spent
abbrev pub made_of : Option Progress → Option Tally
made_of None = None
made_of (Some at) = Some at.tally

-- as they are mapped
pub made_is : (r : Option Progress) {made : Option Tally} {Post : Progress → Tally → Type 0}
    → ((at : Progress) (tally : Tally) → Post at tally → tally ≡ at.tally)
    → MatchOption r (made ≡ None) (λ at. IsSomeAnd made (Post at)) → made ≡ made_of r
made_is None same cases = cases
made_is (Some at) {made = None} same cases = absurd cases
made_is (Some at) {made = Some tally} same cases = ap (λ (t : Tally). Some t) (same at tally cases)

-- what the walk's counters give
module _ {i : Input} {limit : ℕ} {ranks : List ℕ} {words : ℕ} {rule : Rule} {lay : Layout} {budget : ℕ} {w w' : List ℕ}
    {at : Progress} (ok : Tests i limit ranks words)
    (done : WalkDone lay (query_by i limit ranks rule) budget w w' (Some at)) where
  abbrev asked : Query
  asked = query_by i limit ranks rule

  abbrev tally : Tally
  tally = at.tally

  counter_is : (kind : Kind) → counter kind tally ≡ total (is_of kind) asked
  counter_is = done.counted.counts at refl

  pub count_is : tally.by_path + tally.confirmed ≡ pair_count asked.lefts asked.rights
  count_is = omega (arith, counter_is path_pair, counter_is confirmed_check, all_met ok rule)

  pub count_small : tally.by_path + tally.confirmed < full_words
  count_small =
      omega (arith, counter_is path_pair, counter_is confirmed_check, small ok rule is_by_path, small ok rule is_confirmed)

  pub checks_small : tally.dropped + (tally.false_drops + tally.confirmed) < full_words
  checks_small =
      omega (
        arith,
        counter_is dropped_check,
        counter_is false_check,
        counter_is confirmed_check,
        small ok rule is_dropped,
        small ok rule is_false,
        small ok rule is_confirmed,
      )

  pub pairs_room : Index lay asked w → (pairs : List ℕ) → 2 * (tally.by_path + tally.confirmed) ≤ length pairs
      → PairsRoom lay asked w' (length i.left.ends) pairs
  pairs_room index pairs enough =
      record {
        index = index_framed index done.framed (omega arith);
        top = at.top;
        rows = done.rows at refl;
        left_count = lefts_count ok rule;
        room = omega (arith, count_is);
      }

  pub counts_are : tally_counts tally ≡ counts_of asked
  counts_are =
      counts_same count_is (counter_is path_pair) (counter_is confirmed_check)
      (omega (
        arith,
        counter_is dropped_check,
        counter_is false_check,
        counter_is confirmed_check,
        checks_end asked,
      ))
      (counter_is dropped_check) (counter_is false_check)

-- as they make the answer
module _ {i : Input} {limit : ℕ} {ranks : List ℕ} {words : ℕ} {rule : Rule} {lay : Layout} {budget : ℕ} {w w' : List ℕ}
    (ok : Tests i limit ranks words) where
  pub sums_fit : {r : Option Progress} → WalkDone lay (query_by i limit ranks rule) budget w w' r → SumsFit (made_of r)
  sums_fit {r = None} done =
      record { pairs = λ tally is. absurd (none-some tally is); checks = λ tally is. absurd (none-some tally is) }
  sums_fit {r = Some at} done =
      record {
        pairs = λ tally is.
            subst (λ (t : Tally). (tally_counts t).pairs < full_words) (same_Some at.tally tally is) (count_small ok done);
        checks = λ tally is.
            subst (λ (t : Tally). (tally_counts t).checks < full_words) (same_Some at.tally tally is) (checks_small ok done);
      }

  -- the answer by the counters is the walk's
  walk_is : (r : Option Progress) → WalkDone lay (query_by i limit ranks rule) budget w w' r → (places : ℕ)
      → tally_answer (made_of r) places ≡ walk_answer (query_by i limit ranks rule) budget places
  walk_is None done places =
      tally_walk (query_by i limit ranks rule) budget None places (λ over. done.counted.beyond refl)
      (λ tally is. absurd (none-some tally is)) (λ tally is. absurd (none-some tally is))
  walk_is (Some at) done places =
      tally_walk (query_by i limit ranks rule) budget (Some at.tally) places (λ over. absurd (none-some at.tally (sym over)))
      (λ tally is. done.counted.within at refl)
      (λ tally is.
      subst (λ (t : Tally). tally_counts t ≡ counts_of (query_by i limit ranks rule)) (same_Some at.tally tally is)
      (counts_are ok done))

  pub answer_is : {r : Option Progress} → WalkDone lay (query_by i limit ranks rule) budget w w' r → (places : ℕ)
      {answer : Result Counts Refusal} → answer ≡ tally_answer (made_of r) places → answer ≡ walk_answer (query_by i limit ranks rule) budget places
  answer_is {r} done places is = is ∙ walk_is r done places

  -- and there is room for what it has written
  joined_room : (r : Option Progress) → WalkDone lay (query_by i limit ranks rule) budget w w' r
      → Index lay (query_by i limit ranks rule) w → (pairs : List ℕ) → Enough (length pairs) (made_of r) → PairsRoom lay (query_by i limit ranks rule) w' (length i.left.ends) pairs
  joined_room None done index pairs enough = absurd (none-some enough.tally enough.is)
  joined_room (Some at) done index pairs enough =
      pairs_room ok done index pairs
      (subst (λ (t : Tally). 2 * (tally_counts t).pairs ≤ length pairs) (sym (same_Some at.tally enough.tally enough.is))
      enough.room)

  pub answer_room : {r : Option Progress} → WalkDone lay (query_by i limit ranks rule) budget w w' r
      → Index lay (query_by i limit ranks rule) w → (pairs : List ℕ) {answer : Result Counts Refusal} → answer ≡ tally_answer (made_of r) (length pairs)
      → AnswerRoom lay (query_by i limit ranks rule) w' (length i.left.ends) answer pairs
  answer_room {r} done index pairs is =
      record {
        joined = λ counts has. joined_room r done index pairs (joined_enough (length pairs) (made_of r) (sym is ∙ has));
        refused = λ why has. refused_clears (length pairs) (made_of r) (sym is ∙ has);
      }

-- what the index asks of an input that passed the tests
pub build_room : {i : Input} (s : Settings) {w : List ℕ} → Accepted i s w → BuildRoom i s.ranks w
build_room {i} s ok =
    record {
      items = ok.settings.few_items;
      permutation = ok.settings.permutation;
      left_good = ok.good.left;
      right_good = ok.good.right;
      room = rw (words_for_lem i) at ok.work;
    }
