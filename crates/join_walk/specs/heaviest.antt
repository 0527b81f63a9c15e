-- Contents: the heaviest of the children.
pub mod Heaviest
