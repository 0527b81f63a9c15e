-- Laws of the tags of one set from two records; each function has its folder beside them.
pub mod Uniting
