-- The kinds of outcome that are counted, each with a counter of its own. A pair that is not met is of no kind.
use Rattle.std.specs.Prelude.{List, [], ◌∷◌, Bool}
use Rattle.join_spec.specs.Walk.{Outcome}
use Rattle.join_spec.specs.Counting.{is_by_path, is_confirmed, is_dropped, is_false}

-- a pair by path, or a check by how it ended
pub data Kind : Type 0 where
  path_pair : Kind
  confirmed_check : Kind
  dropped_check : Kind
  false_check : Kind

-- whether an outcome is of a kind
abbrev pub is_of : Kind → Outcome → Bool
is_of path_pair = is_by_path
is_of confirmed_check = is_confirmed
is_of dropped_check = is_dropped
is_of false_check = is_false

-- the kinds that are checks
abbrev pub check_kinds : List Kind
check_kinds = confirmed_check ∷ dropped_check ∷ false_check ∷ []

-- all kinds
abbrev pub kinds : List Kind
kinds = path_pair ∷ check_kinds
