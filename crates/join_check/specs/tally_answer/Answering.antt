-- Inner: the answer of a walk by its counters, in the order of the refusal table.
use Rattle.std.specs.Prelude.{ℕ, ◌+◌, ◌*◌, ◌<◌, ◌≡◌, cond, ltb, Option, Some, None, Result, Err, Ok}
use Rattle.sets.specs.Limits.{full_words}
use Rattle.sets.specs.declared.Refusal.TheVariants.{Spent, ShortPairs}
use Rattle.join_spec.specs.declared.Counts.{Counts}
use Rattle.join_check.specs.declared.Tally.{Tally}
use Rattle.sets.specs.declared.Refusal.{Refusal}

-- the six counts by the counters: pairs are by path or confirmed, and a check ends in one of three ways
abbrev pub tally_counts : Tally → Counts
tally_counts tally =
    record {
      pairs = tally.by_path + tally.confirmed;
      by_path = tally.by_path;
      confirmed = tally.confirmed;
      checks = tally.dropped + (tally.false_drops + tally.confirmed);
      dropped = tally.dropped;
      false_drops = tally.false_drops;
    }

-- the sums of a walk that was not spent are below 2^32
pub record SumsFit (made : Option Tally) : Type 0 where
  pub pairs : (tally : Tally) → made ≡ Some tally → (tally_counts tally).pairs < full_words
  pub checks : (tally : Tally) → made ≡ Some tally → (tally_counts tally).checks < full_words

-- the answer: 8 where it was spent, then 9, then the counts
unfoldable pub tally_answer : Option Tally → ℕ → Result Counts Refusal
tally_answer None places = Err Spent
tally_answer (Some tally) places =
    cond (ltb places (2 * (tally_counts tally).pairs)) (Err ShortPairs)
    (Ok (tally_counts tally))
