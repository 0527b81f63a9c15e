-- Laws of tags as numbers; each function has its folder beside them.
pub mod Words
