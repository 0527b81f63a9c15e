-- Laws of pooled records. First two small files, computed: a changed definition is refused there.
pub mod Example
-- one more record of the second file: a left set's, one not yet met, one that is pooled
pub mod OneMore
-- the counts of pooled records in which the tags of one record grew
pub mod Growing
-- faults of the second file: they make zeros; without one, each right set's number is there once
pub mod SecondFaults
-- the left sets of pooled records, and the right sets
pub mod Sides
-- the answer by its tests: zeros with a refusal, all passed without, and then the repeats
pub mod Answers
-- a call, with the answer as it is defined
pub mod Calls
-- an empty file: the second, then the first
pub mod EmptyFiles
