-- Laws of the positions of ids; each function that needs a proof file has its folder beside them.
pub mod Ranks
