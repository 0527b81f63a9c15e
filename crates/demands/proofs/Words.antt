-- The number of a refusal is never 0, which tells an answer that accepts.
use Prim.Native.Nat.{◌<◌}
use native.Mathlib.Omega.{arith}
use Rattle.sets.specs.Refusals.{row_of}
use Rattle.sets.specs.declared.Refusal.{Refusal}
use Rattle.sets.specs.declared.Refusal.TheVariants.{Malformed, NumberUsed, TooMany, ShortOutput, BadSet, BadSettings}
use Rattle.sets.specs.declared.Refusal.TheVariants.{ShortWork, Spent, ShortPairs, Overlong}

-- the number of each row
pub number_some : (why : Refusal) → 0 < (row_of why).number
number_some (Malformed place) = omega arith
number_some (NumberUsed place) = omega arith
number_some (TooMany place) = omega arith
number_some ShortOutput = omega arith
number_some (BadSet side place) = omega arith
number_some BadSettings = omega arith
number_some ShortWork = omega arith
number_some Spent = omega arith
number_some ShortPairs = omega arith
number_some (Overlong place) = omega arith
