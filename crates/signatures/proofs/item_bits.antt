-- Laws of the table, beside the folders of its functions.
pub mod Entries
