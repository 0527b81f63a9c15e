-- `join_index::asks_seen` meets its contract, by cases on the rule.
use mathlib.Core.Path.{sym, ap}
use Rattle.join_index.specs.Ground.{asks_seen}
use Rattle.join_index.proofs.asks_seen.Goals as goal

pub returns-in-Merge : goal.returns-in-Merge
unfolding asks_seen
returns-in-Merge c = sym (ap asks_seen c.in-Merge.is)

pub returns-in-Check : goal.returns-in-Check
unfolding asks_seen
returns-in-Check c = sym (ap asks_seen c.in-Check.is)

pub returns-in-Weighed : goal.returns-in-Weighed
unfolding asks_seen
returns-in-Weighed c = sym (ap asks_seen c.in-Weighed.is)
