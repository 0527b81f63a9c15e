-- `join_pairs::row_pairs::is_contained` meets its contract: where the rest has no rank the right set contains the left set, else the check
-- decides.
use mathlib.Core.Path.{sym, ap, ◌∙◌}
use mathlib.Core.Bool.{Bool}
use Rattle.join_spec.specs.Counting.{is_confirmed}
use Rattle.join_check.specs.declared.Checked.{Checked}
use Rattle.join_check.specs.Probes.{outcome_of}
use Rattle.join_pairs.proofs.row_pairs.Passing.{contains_none, contains_confirmed}
use Rattle.join_pairs.proofs.row_pairs.is_contained.Goals as goal

pub returns-then-p : goal.returns-then-p
returns-then-p c =
    λ q k there. contains_none there c.if-p.true

-- whether the check ends with a confirmed pair
abbrev confirms : Checked → Bool
confirms end = is_confirmed (outcome_of end)

pub returns-in-Dropped : goal.returns-in-Dropped
returns-in-Dropped c =
    λ q k there.
    sym (ap confirms c.in-Dropped.is) ∙ ap is_confirmed (c.check_probe-end.ensures q there.right)
    ∙ contains_confirmed there

pub returns-in-FalseDrop : goal.returns-in-FalseDrop
returns-in-FalseDrop c =
    λ q k there.
    sym (ap confirms c.in-FalseDrop.is) ∙ ap is_confirmed (c.check_probe-end.ensures q there.right)
    ∙ contains_confirmed there

pub returns-in-Confirmed : goal.returns-in-Confirmed
returns-in-Confirmed c =
    λ q k there.
    sym (ap confirms c.in-Confirmed.is) ∙ ap is_confirmed (c.check_probe-end.ensures q there.right)
    ∙ contains_confirmed there
