-- Laws of the second pass over the right sets of two files; each function that needs a proof file has its folder beside them.
-- sets laid out in a list, each with what stands there now and what will
pub mod Laying
-- the lists of a side written set by set, each with room for its whole
pub mod SetPlacing
-- records of two files, and the unions of their right sets
pub mod Unions
-- the right sets of the pooled records
pub mod PooledSets
-- the marks of a record's tags, where there were none
pub mod Fresh
-- the walk over the first file, and at a right set
pub mod FirstWalk
pub mod OwnSets
-- the walk over the second file, and at a right set that the first has not, or has
pub mod SecondWalk
pub mod NewSets
pub mod MetSets
