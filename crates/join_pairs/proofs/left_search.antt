-- Laws on the pairs of a left set, and on what its candidates come to; each function that needs a proof file has its folder beside
-- them.
pub mod LeftPairs
pub mod Finding
