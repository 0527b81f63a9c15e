-- Contents: a part of a list of words and its copy.
pub mod Copies
