-- `weigh` meets its contract: the product of two numbers up to 4,096 fits, whole numbers of 32 bits are floats exactly, and the
-- rest is the definition's own expression.
use native.Mathlib.Omega.{arith}
use native.Mathlib.Nat.{mul-le-mul}
use borrow.Author.Rules.{rules}
use lib.Ieee.{lt}
use Rattle.join_spec.specs.Node.{goes_on}
use Rattle.join_nodes.proofs.decide.weigh.Goals as goal

pub overflow_mul-product : goal.overflow_mul-product
overflow_mul-product c = omega (arith, mul-le-mul c.requires.0 c.requires.1)

pub returns : goal.returns
unfolding lt goes_on
returns c = search rules
