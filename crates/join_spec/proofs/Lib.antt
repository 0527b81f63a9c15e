-- Laws about the join's definitions, document 01's shelf examples and further border cases. First the examples, then the outcome of
-- one pair, the six counts, the pair list, and whole joins.
pub mod Examples
pub mod BorderCases
pub mod Outcomes
pub mod KindLaws
pub mod Demand
pub mod PairListLaws
pub mod GoodSettings
pub mod Accepted
pub mod AcceptedRuns
pub mod Calls
