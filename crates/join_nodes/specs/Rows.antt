-- Inner: what one left set adds to the counts from a depth on: one row of the sums over left and right sets. And what the left sets
-- add that end at a node.
use Rattle.std.specs.Prelude.{ℕ, ◌-◌, ◌*◌, [], Bool, cond, length, get_or}
use Rattle.lists.specs.Lists.{count, upto}
use Rattle.join_spec.specs.Query.{Query}
use Rattle.join_spec.specs.Walk.{Outcome, by_path, ending_from, check, goes, outcome_after}
use Rattle.join_index.specs.Grouping.{left_at, right_at}

-- the outcome of left place k with right place s, with the walk at depth d
unfoldable pub outcome_from : Query → ℕ → ℕ → ℕ → Outcome
outcome_from q d k s =
    outcome_after (ending_from (goes q) (q.limit - d) d (left_at q k)) (left_at q k) (right_at q s) by_path
    (check (get_or q.lefts k []) (get_or q.rights s []))

-- how many right sets have such an outcome with left place k, with the walk at depth d
unfoldable pub row : (Outcome → Bool) → Query → ℕ → ℕ → ℕ
row is q d k = count (λ s. is (outcome_from q d k s)) (upto (length q.rights))

-- how many pairs of m left sets that end at a node with the c candidates after it have such an outcome: all come by path
unfoldable pub path_pairs : ℕ → ℕ → (Outcome → Bool) → ℕ
path_pairs m c is = cond (is by_path) (m * c) 0
