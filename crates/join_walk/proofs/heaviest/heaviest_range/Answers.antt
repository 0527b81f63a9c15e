-- `join_walk::heaviest::heaviest_range` meets its contract: an only left set is a range, none is chosen at a shallow depth, and else the range
-- that was found.
use native.Mathlib.Omega.{arith}
use Rattle.join_walk.proofs.heaviest.RangeParts.{chosen_only, chosen_none, chosen_found}
use Rattle.join_walk.proofs.heaviest.heaviest_range.Goals as goal

pub overflow_sub-hi : goal.overflow_sub-hi
overflow_sub-hi c = omega (arith, c.requires.holds.some)

pub returns-then-hi-lo-eq1 : goal.returns-then-hi-lo-eq1
returns-then-hi-lo-eq1 c = chosen_only c.requires.holds.some c.if-hi-lo-eq1.true

pub returns-then-d-lt-SHALLOW : goal.returns-then-d-lt-SHALLOW
returns-then-d-lt-SHALLOW c = chosen_none (omega (arith, c.requires.holds.some))

pub longest_range-requires : goal.longest_range-requires
longest_range-requires c = c.requires

pub returns : goal.returns
returns c = chosen_found c.longest_range.ensures
