-- The join's rule as a number at the C boundary: 0 Merge, 1 Check, 2 Weighed with four weights. A greater number is refused
-- with 6, before anything else is tested.
use Rattle.std.specs.Prelude.{ℕ, List, cond, eqb, ltb, Float, Result, Err}
use Rattle.sets.specs.Refusals.{refuse_if, unless}
use Rattle.sets.specs.declared.Refusal.TheVariants.{BadSettings}
use Rattle.inputs.specs.Input.{Input}
use Rattle.join_spec.specs.declared.Rule.{Rule}
use Rattle.join_spec.specs.declared.Rule.TheVariants.{Merge, Check, Weighed}
use Rattle.join_spec.specs.declared.Weights.{Weights}
use Rattle.join_spec.specs.Query.{settings_of}
use Rattle.join_spec.specs.Answer.{Room, join_answer}
use Rattle.join_spec.specs.declared.Counts.{Counts}
use Rattle.sets.specs.declared.Refusal.{Refusal}

abbrev pub weights_of : Float → Float → Float → Float → Weights
weights_of a b g h = record { a = a; b = b; g = g; h = h }

-- the rule of a number that is at most 2
abbrev pub rule_of : ℕ → Weights → Rule
rule_of number weights = cond (eqb number 0) Merge (cond (eqb number 1) Check (Weighed weights))

-- the answer of a join whose rule is a number
unfoldable pub numbered_answer : Input → ℕ → List ℕ → ℕ → ℕ → Weights → Room → Result Counts Refusal
numbered_answer i limit ranks budget number weights room =
    unless Err (refuse_if (ltb 2 number) BadSettings)
    (join_answer i (settings_of limit ranks budget (rule_of number weights)) room)
