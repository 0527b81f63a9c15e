-- Laws of the functions of this module, by topic; each function that needs a proof file has its folder beside them.
pub mod RangeEnds
pub mod FoundRanges
