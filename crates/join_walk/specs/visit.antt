-- Contents: the left sets of a child.
pub mod Child
