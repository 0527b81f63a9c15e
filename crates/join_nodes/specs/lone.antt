-- Contents: a lone left set.
pub mod Lone
