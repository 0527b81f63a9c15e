-- Inner: one check, what remains of a left set to be checked, and what becomes of it with a right set.
use Rattle.std.specs.Prelude.{ℕ, ◌+◌, ◌≤◌, ◌≡◌, List, [], cond, get_or, drop}
use Rattle.lists.specs.Lists.{one, subset, slice}
use Rattle.sets.specs.Signatures.{signature, drops}
use Rattle.join_spec.specs.Query.{Query}
use Rattle.join_spec.specs.Walk.{Outcome, dropped, false_drop, confirmed}
use Rattle.join_index.specs.Grouping.{left_at, right_at}
use Rattle.join_index.specs.declared.Layout.{Layout}
use Rattle.join_check.specs.declared.Tally.{Tally}
use Rattle.join_check.specs.declared.Probe.{Probe}
use Rattle.join_check.specs.declared.Checked.{Checked}
use Rattle.join_check.specs.declared.Checked.TheVariants.{Dropped, FalseDrop, Confirmed}
use Rattle.join_index.specs.Asking.{LeftThere, RightThere}
use Rattle.join_check.specs.Counters.{checks_in, Tallied}

-- p has the signature of the left set k, and where its ranks from e on are
pub record ProbeOf (q : Query) (w : List ℕ) (k e : ℕ) (p : Probe) : Type 0 where
  pub signed : p.signature ≡ signature (get_or q.lefts k [])
  pub rest : slice p.from p.to w ≡ drop e (left_at q k)

-- and so for every query whose left set k is in w; the ranks are below the slots
pub record Probed (lay : Layout) (w : List ℕ) (k e : ℕ) (p : Probe) : Type 0 where
  pub within : p.to ≤ lay.slots
  pub is : (q : Query) → LeftThere lay q w k → ProbeOf q w k e p

-- what becomes of what remains of a left set with the right set s: signatures first, then ranks
abbrev pub probe_outcome : Query → List ℕ → Probe → ℕ → Outcome
probe_outcome q w p s =
    cond (drops p.signature (signature (get_or q.rights s []))) dropped
    (cond (subset (slice p.from p.to w) (right_at q s)) confirmed false_drop)

-- the outcome that the end of a check stands for
abbrev pub outcome_of : Checked → Outcome
outcome_of Dropped = dropped
outcome_of FalseDrop = false_drop
outcome_of Confirmed = confirmed

-- one check was made
pub record OneChecked (lay : Layout) (w : List ℕ) (p : Probe) (s : ℕ) (tally r : Tally) : Type 0 where
  pub grown : checks_in r ≡ checks_in tally + 1
  pub tallied : (q : Query) → RightThere lay q w s → Tallied (λ is. one (is (probe_outcome q w p s))) tally r
