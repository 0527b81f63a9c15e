-- The search beside the join.
-- the pairs with one right element
pub mod FirstPairs
-- an accepted search beside an accepted join
pub mod Beside
