-- Laws of what is counted; each function that needs a proof file has its folder beside them.
-- the first set that is too long
pub mod Longest
