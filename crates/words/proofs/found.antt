-- Laws of the search by halving; each function that needs a proof file has its folder beside them.
pub mod Halving
