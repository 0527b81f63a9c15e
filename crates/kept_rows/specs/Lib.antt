-- Contents: the kept rows, and what the functions that keep them ask and answer; then rows that are kept while they are checked.
pub mod Kept
pub mod Keeping
pub mod checked
