-- `tag_scan::totals::is_past` meets its contract.
use borrow.Author.Tests.{lt-ltb, le-ltb}
use Rattle.sets.specs.Limits.{max_sets, max_entries}
use Rattle.tag_scan.proofs.totals.is_past.Goals as goal

pub returns-then-sets-gt-MAX_SETS : goal.returns-then-sets-gt-MAX_SETS
returns-then-sets-gt-MAX_SETS c =
    rw (lt-ltb max_sets c.args.sets c.if-sets-gt-MAX_SETS.true)

pub returns-then-entries-gt-MAX_ENTRIES : goal.returns-then-entries-gt-MAX_ENTRIES
returns-then-entries-gt-MAX_ENTRIES c =
    let a = c.args in
    rw (le-ltb max_sets a.sets c.if-sets-gt-MAX_SETS.false, lt-ltb max_entries a.entries c.if-entries-gt-MAX_ENTRIES.true)

pub returns-else-entries-gt-MAX_ENTRIES : goal.returns-else-entries-gt-MAX_ENTRIES
returns-else-entries-gt-MAX_ENTRIES c =
    let a = c.args in
    rw (le-ltb max_sets a.sets c.if-sets-gt-MAX_SETS.false, le-ltb max_entries a.entries c.if-entries-gt-MAX_ENTRIES.false)
