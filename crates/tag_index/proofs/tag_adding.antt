-- Laws of the tags added to a set; each function that needs a proof file has its folder beside them.
pub mod AddLaws
