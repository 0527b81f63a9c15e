-- Contents: where ranges with the same key begin.
pub mod Borders
