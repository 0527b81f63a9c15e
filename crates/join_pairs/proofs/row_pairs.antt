-- Laws on the pairs of a left set with right places, and on one check; each function that needs a proof file has its folder beside
-- them.
pub mod RowPairs
pub mod Passing
