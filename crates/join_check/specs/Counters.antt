-- Inner: the counters of a walk, one for each kind of outcome, and how they grow.
use Rattle.std.specs.Prelude.{ℕ, ◌+◌, ◌≡◌, Bool}
use Rattle.lists.specs.Lists.{sum}
use Rattle.join_spec.specs.Walk.{Outcome}
use Rattle.join_spec.specs.Kinds.{Kind, path_pair, confirmed_check, dropped_check, false_check, is_of, kinds, check_kinds}
use Rattle.join_check.specs.declared.Tally.{Tally}

-- the counter of a kind
abbrev pub counter : Kind → Tally → ℕ
counter path_pair tally = tally.by_path
counter confirmed_check tally = tally.confirmed
counter dropped_check tally = tally.dropped
counter false_check tally = tally.false_drops

-- how many checks the counters have
abbrev pub checks_in : Tally → ℕ
checks_in tally = sum (λ kind. counter kind tally) check_kinds

-- how many pairs they have, by path and checked
abbrev pub pairs_in : Tally → ℕ
pairs_in tally = sum (λ kind. counter kind tally) kinds

-- the counters became r: that of each kind grew by the amount of such outcomes
pub record Tallied (amount : (Outcome → Bool) → ℕ) (tally r : Tally) : Type 0 where
  pub grows : (kind : Kind) → counter kind r ≡ counter kind tally + amount (is_of kind)
