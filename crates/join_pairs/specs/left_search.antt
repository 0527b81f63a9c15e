-- Contents: the pairs of one left set.
pub mod LeftRows
