-- Contents: what is counted over the second file.
pub mod Counting
