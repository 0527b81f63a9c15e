-- `covers` meets its contract: what is to spare covers the checks, or they pass the budget.
use Prim.Native.Nat.{◌+◌, ◌-◌}
use native.Mathlib.Omega.{arith}
use borrow.Author.Rules.{rules}
use borrow.Author.Tests.{leb-true, leb-false}
use Rattle.lists.specs.Lists.{sum}
use Rattle.join_nodes.proofs.block_checks.covers.Goals as goal

pub overflow_add-made : goal.overflow_add-made
unfolding sum
overflow_add-made c = search rules

pub overflow_add-made-2 : goal.overflow_add-made-2
unfolding sum
overflow_add-made-2 c = search rules

pub overflow_sub-spare : goal.overflow_sub-spare
unfolding sum
overflow_sub-spare c = search rules

pub returns : goal.returns
unfolding sum
returns c =
    let a = c.args in
    let spare = a.budget - (a.tally.confirmed + a.tally.dropped + a.tally.false_drops) in
    record {
      within = λ fits. omega (arith, leb-true a.checks spare fits, c.requires);
      beyond = λ short. omega (arith, leb-false a.checks spare short, c.requires);
    }
