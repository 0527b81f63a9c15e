-- Laws of the numbers that were used; each function that needs a proof file has its folder beside them.
pub mod Numbers
