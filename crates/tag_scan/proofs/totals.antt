-- Laws of the totals of a load; each function that needs a proof file has its folder beside them.
pub mod Counting
