-- `decide` meets its contract, by cases on the rule.
use mathlib.Core.Path.{◌∙◌}
use Rattle.join_nodes.proofs.NodeFacts.{merge_goes, check_stops}
use Rattle.join_nodes.proofs.decide.decide.Goals as goal

pub returns-in-Merge : goal.returns-in-Merge
returns-in-Merge c =
    λ q path node is. merge_goes q path (is ∙ c.in-Merge.is)

pub returns-in-Check : goal.returns-in-Check
returns-in-Check c =
    λ q path node is. check_stops q path (is ∙ c.in-Check.is)

pub returns-in-Weighed : goal.returns-in-Weighed
returns-in-Weighed c =
    λ q path node is. c.weigh_node.ensures q path node (is ∙ c.in-Weighed.is)
