-- Contents: the table of the items' bits.
pub mod Bits
