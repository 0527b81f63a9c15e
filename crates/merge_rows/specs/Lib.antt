-- Contents: words of 64 bits by their digits; the rows of the right sets; paths; signatures on demand; pairs in a list that may be
-- short; what one left set comes to, how it is met, and all left sets together.
pub mod Words
pub mod Filled
pub mod FirstRanks
pub mod SignedSets
pub mod ShortLists
pub mod Yields
pub mod Meeting
pub mod Merging
