-- Laws over whole joins.
-- empty left sets have no bearing
pub mod EmptyLefts
-- what becomes of a left set under Merge
pub mod MergeEndings
