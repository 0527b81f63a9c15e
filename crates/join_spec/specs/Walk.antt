-- The walk of one left set along its own prefixes, and what becomes of it with each right set. There is no tree: where a left set's
-- walk ends depends only on its prefixes and the rule's three numbers. Sets called ranks are in rank order.
use Rattle.std.specs.Prelude.{ℕ, zero, suc, ◌-◌, List, [], ◌∷◌, map, Bool, false, cond, ◌&&◌, eqb, length, take}
use Rattle.lists.specs.Lists.{subset}
use Rattle.sets.specs.Collections.{contained}
use Rattle.sets.specs.Signatures.{signature, drops}
use Rattle.join_spec.specs.Query.{Query, in_order}
use Rattle.join_spec.specs.Node.{seen, goes_on_at}

-- how the walk of a left set ends: all its ranks were on the path, or it is checked after so many ranks
pub data Ending : Type 0 where
  merged : Ending
  checked_after : ℕ → Ending

-- the ending from the node of depth d on, with n more levels within the limit
unfoldable pub ending_from : (List ℕ → Bool) → ℕ → ℕ → List ℕ → Ending
ending_from goes zero d ranks =
    cond (goes (take d ranks)) (cond (eqb d (length ranks)) merged (checked_after d)) (checked_after (d - 1))
ending_from goes (suc n) d ranks =
    let further = ending_from goes n (suc d) ranks in
    cond (goes (take d ranks)) (cond (eqb d (length ranks)) merged further) (checked_after (d - 1))

-- the ending of a left set; an empty one has no node
unfoldable pub ending : (List ℕ → Bool) → ℕ → List ℕ → Ending
ending goes limit [] = merged
ending goes limit (r ∷ ranks) = ending_from goes (limit - 1) 1 (r ∷ ranks)

-- whether a right set is a candidate after the first d ranks of a left set: it is seen and holds them; an empty left set has none
unfoldable pub is_candidate : ℕ → List ℕ → List ℕ → Bool
is_candidate d [] right = false
is_candidate d (r ∷ ranks) right = seen r right && subset (take d (r ∷ ranks)) right

-- what becomes of a left and a right set
pub data Outcome : Type 0 where
  not_met : Outcome
  by_path : Outcome
  dropped : Outcome
  false_drop : Outcome
  confirmed : Outcome

-- a check compares signatures, then items
abbrev pub check : List ℕ → List ℕ → Outcome
check left right = cond (drops (signature left) (signature right)) dropped (cond (contained left right) confirmed false_drop)

-- the outcome after an ending. It takes both sets by rank, what a pair by path is and what a check would find: the walk sees only
-- ranks
abbrev pub outcome_after : Ending → List ℕ → List ℕ → Outcome → Outcome → Outcome
outcome_after merged left_ranks right_ranks paired checked =
    cond (is_candidate (length left_ranks) left_ranks right_ranks) paired not_met
outcome_after (checked_after d) left_ranks right_ranks paired checked =
    cond (is_candidate d left_ranks right_ranks) checked not_met

-- whether the walk of a query goes on at a path
unfoldable pub goes : Query → List ℕ → Bool
goes q path = goes_on_at q.rule (map (in_order q) q.lefts) (map (in_order q) q.rights) path

-- the ending of a left set in a query
unfoldable pub ending_in : Query → List ℕ → Ending
ending_in q left = ending (goes q) q.limit (in_order q left)

-- the outcome of a left and a right set in a query
unfoldable pub outcome : Query → List ℕ → List ℕ → Outcome
outcome q left right = outcome_after (ending_in q left) (in_order q left) (in_order q right) by_path (check left right)
