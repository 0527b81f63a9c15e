-- Contents: what the functions of the ranks promise each other.
pub mod Steps
