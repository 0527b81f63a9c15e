-- Laws of tables of flags and of the words that are kept, by topic; each function that needs a proof file has its folder beside them.
pub mod Flagging
pub mod Keeping
