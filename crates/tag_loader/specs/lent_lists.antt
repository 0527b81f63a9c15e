-- Contents: what the functions of this module promise.
pub mod LentLists
