-- `test_items` meets its contract: a case for each way of the test.
use borrow.Author.Tests.{lt-ltb, le-ltb}
use Rattle.sets.specs.Limits.{max_items}
use Rattle.inputs.proofs.test_items.Goals as goal

pub returns-then-t-gt-MAX_ITEMS : goal.returns-then-t-gt-MAX_ITEMS
returns-then-t-gt-MAX_ITEMS c = rw (lt-ltb max_items c.args.t c.if-t-gt-MAX_ITEMS.true)

pub returns : goal.returns
returns c = rw (le-ltb max_items c.args.t c.if-t-gt-MAX_ITEMS.false)
