-- Laws of the pass over the second file; slots, unions and counts are on the pages right_slots, union and counting.
-- the words of the slots, and the sets that are too long, with one more record
pub mod Words
-- the counts and the index with one more right set
pub mod Counts
-- the pass: its invariant over the records seen
pub mod Passing
-- a right set in the pass
pub mod Step
