-- `merge_rows::settle` meets its contract: zeros after a refusal.
use mathlib.Core.Path.{sym, ap, ◌∙◌}
use Rattle.std.specs.Prelude.{Result}
use Rattle.merge_rows.specs.Merging.{settled}
use Rattle.merge_rows.proofs.settle.Goals as goal
use Rattle.join_spec.specs.declared.Counts.{Counts}
use Rattle.sets.specs.declared.Refusal.{Refusal}

pub returns-in-Err : goal.returns-in-Err
returns-in-Err c =
    let pairs = c.args.pairs.now in
    c.fill.ensures.after (λ y h. h) ∙ sym (ap (λ (a : Result Counts Refusal). settled a pairs) c.in-Err.is)
