-- Laws of filling the loader's lists of a side; each function that needs a proof file has its folder beside them.
pub mod Runs
pub mod Filling
