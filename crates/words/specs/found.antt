-- Contents: where a word would stand in a part.
pub mod Halving
