-- The six counts of a join, each a sum over left and right sets.
use Rattle.std.specs.Prelude.{ℕ, Bool, true, false, ◌||◌}
use Rattle.join_spec.specs.declared.Counts.{Counts}
use Rattle.join_spec.specs.PairList.{count_pairs, pair_count}
use Rattle.join_spec.specs.Query.{Query}
use Rattle.join_spec.specs.Walk.{Outcome, not_met, by_path, dropped, false_drop, confirmed, outcome}

-- whether an outcome is of one kind
abbrev pub is_by_path : Outcome → Bool
is_by_path not_met = false
is_by_path by_path = true
is_by_path dropped = false
is_by_path false_drop = false
is_by_path confirmed = false

abbrev pub is_dropped : Outcome → Bool
is_dropped not_met = false
is_dropped by_path = false
is_dropped dropped = true
is_dropped false_drop = false
is_dropped confirmed = false

abbrev pub is_false : Outcome → Bool
is_false not_met = false
is_false by_path = false
is_false dropped = false
is_false false_drop = true
is_false confirmed = false

abbrev pub is_confirmed : Outcome → Bool
is_confirmed not_met = false
is_confirmed by_path = false
is_confirmed dropped = false
is_confirmed false_drop = false
is_confirmed confirmed = true

-- a check was made
abbrev pub is_check : Outcome → Bool
is_check o = is_dropped o || (is_false o || is_confirmed o)

-- how many pairs of a left and a right set have such an outcome
unfoldable pub total : (Outcome → Bool) → Query → ℕ
total is q = count_pairs (λ left right. is (outcome q left right)) q.lefts q.rights

-- the sum of checks over the whole walk
abbrev pub checks_of : Query → ℕ
checks_of q = total is_check q

-- the six counts
abbrev pub counts_of : Query → Counts
counts_of q =
    record {
      pairs = pair_count q.lefts q.rights;
      by_path = total is_by_path q;
      confirmed = total is_confirmed q;
      checks = total is_check q;
      dropped = total is_dropped q;
      false_drops = total is_false q;
    }
