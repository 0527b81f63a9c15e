-- Laws of the table's bytes; each function that needs a proof file has its folder beside them.
pub mod TableBytes
