-- Laws of the pooled load.
-- the answer
pub mod Answers
-- a call by its ends
pub mod Ends
-- the second passes
pub mod Filling
