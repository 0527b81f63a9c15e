-- Over bit rows or by the walk: where the rows are taken the rule is Merge and they fit, and the join over them answers as the walk does.
use Prim.Native.Nat.{ℕ, ◌≤◌}
use mathlib.Core.Path.{◌≡◌, refl, sym, ap, ◌∙◌}
use mathlib.Core.List.{List}
use mathlib.Core.Bool.{Bool, true}
use borrow.Author.Tests.{leb-true}
use lib.ListN.{length}
use Rattle.std.specs.Prelude.{Result}
use Rattle.lists.proofs.Bools.{true-false}
use Rattle.inputs.specs.Input.{Input}
use Rattle.join_spec.specs.declared.Rule.{Rule}
use Rattle.join_spec.specs.declared.Rule.TheVariants.{Merge, Check, Weighed}
use Rattle.join_spec.specs.Query.{Settings, settings_of, query_of}
use Rattle.join_spec.specs.Answer.{walk_answer}
use Rattle.merge_rows.specs.Merging.{words_for, merge_query, MergeRoom}
use Rattle.join.specs.Ready.{Accepted, takes_rows}
use Rattle.join_spec.specs.declared.Counts.{Counts}
use Rattle.sets.specs.declared.Refusal.{Refusal}

pub rows_fitting : (rule : Rule) (T lefts rights words : ℕ) {b : Bool} → rule ≡ Merge → b ≡ takes_rows Merge T lefts rights words
    → b ≡ takes_rows rule T lefts rights words
rows_fitting rule T lefts rights words merge is = is ∙ ap (λ (r : Rule). takes_rows r T lefts rights words) (sym merge)

-- taken rows: the rule, and room
rows_taken : (rule : Rule) (T lefts rights words : ℕ) → takes_rows rule T lefts rights words ≡ true
    → (rule ≡ Merge) × (words_for T lefts rights ≤ words)
rows_taken Merge T lefts rights words taken = (refl, leb-true (words_for T lefts rights) words taken)
rows_taken Check T lefts rights words taken = true-false taken refl
rows_taken (Weighed weights) T lefts rights words taken = true-false taken refl

pub rows_room : {i : Input} (s : Settings) {w : List ℕ} → Accepted i s w
    → takes_rows s.rule i.T (length i.left.ends) (length i.right.ends) (length w) ≡ true → MergeRoom i s.limit s.ranks w
rows_room {i} s {w} ok taken =
    record { tests = ok; room = (rows_taken s.rule i.T (length i.left.ends) (length i.right.ends) (length w) taken).1 }

-- and the answer
pub rows_answer : (i : Input) (limit : ℕ) (ranks : List ℕ) (words : ℕ) (rule : Rule) {answer : Result Counts Refusal} (budget places : ℕ)
    → takes_rows rule i.T (length i.left.ends) (length i.right.ends) words ≡ true
    → answer
    ≡ walk_answer (merge_query i limit ranks) budget places
    → answer ≡ walk_answer (query_of i (settings_of limit ranks budget rule)) budget places
rows_answer i limit ranks words rule budget places taken is =
    is
    ∙ ap (λ (r : Rule). walk_answer (query_of i (settings_of limit ranks budget r)) budget places)
    (sym (rows_taken rule i.T (length i.left.ends) (length i.right.ends) words taken).0)
