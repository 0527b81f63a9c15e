-- Contents: what the search for the first left set answers. Document 02, C-12.
pub mod First
