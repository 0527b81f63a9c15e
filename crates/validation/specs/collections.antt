-- Contents: what the functions of this module promise each other.
pub mod WholeList
