-- Laws of what two parts share; each function that needs a proof file has its folder beside them.
pub mod Sharing
