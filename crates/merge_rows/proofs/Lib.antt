-- Laws of the rows.
-- the digits of two words as one
pub mod WordDigits
-- the rows being filled
pub mod FillSteps
-- what the rows say to those who read them
pub mod RowReads
-- signatures made on demand
pub mod SignedLaws
-- the ranks of a set, counted
pub mod RankCounts
-- the first ranks of a set
pub mod PathLaws
-- and the least keys
pub mod LeastKeys
-- pairs in a list that may be short
pub mod ShortWriting
-- yields put together
pub mod YieldLaws
-- one block, and one after the other
pub mod BlockSteps
-- an equal left set again
pub mod RepeatLaws
-- a left set by its path
pub mod PathSteps
-- what a left set comes to by the definitions
pub mod LeftOutcomes
-- all left sets together
pub mod Totals
-- one left set
pub mod LeftSteps
-- one left set after another
pub mod AllLefts
-- the answer and the pair list
pub mod MergedAnswer
