-- Laws of slots; each function that needs a proof file has its folder beside them.
-- how many used numbers are below a number, by words and blocks; slots are small and differ
pub mod Counted
-- two ways to split one list around an element
pub mod Splits
-- right sets found by their numbers
pub mod Found
-- the word of one right set put into its slot
pub mod Putting
-- the walk over a file's records, the numbers noted and the places put on it; the blocks counted
pub mod Walking
pub mod Noting
pub mod Counting
pub mod SlotPlacing
-- an accepted file's right sets can have slots
pub mod Accepted
