-- Laws of chained tags and of their repeats; each function that needs a proof file has its folder beside them.
pub mod Linking
pub mod Walking
pub mod Counting
