-- Inner: what the test of a collection as one list tells: whether a set is bad, not which.
use Rattle.std.specs.Prelude.{Bool, true, false, Option, None, Some}
use Prim.Native.Nat.{ℕ}

-- whether no set is bad
abbrev pub is_good : Option ℕ → Bool
is_good None = true
is_good (Some k) = false
