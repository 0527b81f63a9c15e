-- `sets::Sets::entries` meets its contract: the last end, or 0 where there is none.
use mathlib.Core.Path.{ap, ◌∙◌}
use Rattle.std.specs.Prelude.{option_copied}
use Rattle.sets.proofs.Entries.{entries_some, entries_empty}
use Rattle.sets.proofs.Sets.entries.Goals as goal

pub returns-in-Some : goal.returns-in-Some
returns-in-Some c = entries_some c.args.self.now.ends.now c.in-Some.end.now c.in-Some.ensures.value

pub returns-in-None : goal.returns-in-None
returns-in-None c = entries_empty c.args.self.now.ends.now c.in-None.ensures.value
