-- `validation::one_set::good_set` meets its contract: each early return is a test of the definition that fails.
use native.Mathlib.Omega.{arith}
use borrow.Author.Tests.{lt-leb, le-leb}
use lib.ListN.{length}
use Rattle.sets.specs.Limits.{max_entries}
use Rattle.validation.proofs.one_set.good_set.Goals as goal

pub returns-then-end-start : goal.returns-then-end-start
returns-then-end-start c = rw (lt-leb c.args.start c.args.end c.if-end-start.true)

pub returns-then-end-gt-MAX_ENTRIES : goal.returns-then-end-gt-MAX_ENTRIES
returns-then-end-gt-MAX_ENTRIES c =
    let a = c.args in
    rw (le-leb a.start a.end (omega arith), lt-leb a.end max_entries (omega arith))

pub returns-then-items-end : goal.returns-then-items-end
returns-then-items-end c =
    let a = c.args in
    rw (
      le-leb a.start a.end (omega arith),
      le-leb a.end max_entries (omega arith),
      lt-leb a.end (length a.items.now) (omega arith),
    )

pub returns : goal.returns
returns c =
    let a = c.args in
    rw (
      le-leb a.start a.end (omega arith),
      le-leb a.end max_entries (omega arith),
      le-leb a.end (length a.items.now) (omega arith),
    ) c.good_items.ensures
