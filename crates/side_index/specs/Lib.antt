-- Contents: what the index of one collection holds; then, a page a module, the keys of whole sets, keys and values written for a sort,
-- and what the loops that build the two halves need and leave.
pub mod Side
pub mod keys
pub mod key_lists
pub mod inverted
pub mod turned
