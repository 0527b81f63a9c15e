-- Contents: the left sets of a node that have no child to visit, and what becomes of them.
pub mod Blocks
