-- Inner: an input that passed the tests before the walk, and whether it is joined over bit rows.
use Rattle.std.specs.Prelude.{ℕ, List, Bool, false, leb, length}
use Rattle.inputs.specs.Input.{Input}
use Rattle.join_spec.specs.declared.Rule.{Rule}
use Rattle.join_spec.specs.declared.Rule.TheVariants.{Merge, Check, Weighed}
use Rattle.join_spec.specs.Query.{Settings}
use Rattle.join_spec.proofs.Accepted.{Tests}
use Rattle.merge_rows.specs.Merging.{words_for}

-- with the work list that is lent
abbrev pub Accepted : Input → Settings → List ℕ → Type 0
Accepted i s work = Tests i s.limit s.ranks (length work)

-- under Merge, where the rows of so many items and sets fit so many words
abbrev pub takes_rows : Rule → ℕ → ℕ → ℕ → ℕ → Bool
takes_rows Merge T lefts rights words = leb (words_for T lefts rights) words
takes_rows Check T lefts rights words = false
takes_rows (Weighed weights) T lefts rights words = false
