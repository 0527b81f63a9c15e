-- Contents: what the loops that make the signatures need and leave; then the table of the items' bits.
pub mod Signing
pub mod item_bits
