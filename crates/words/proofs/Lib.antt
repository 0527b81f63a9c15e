-- Laws on rising parts of a list of words, for `subsets`; the other modules have pages of their own (flags, found, shared, copies).
-- Each function that needs a proof file has its folder beside them.
pub mod Lasts
pub mod Trimming
pub mod Advancing
