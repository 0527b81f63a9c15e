-- Laws of the search; each function that needs a proof file has its folder beside them.
-- the walk over the left sets, and the marks that decide containment
pub mod Searching
