-- Contents: laws of the kept rows, by what changes them; rows that are kept while they are checked are on the page checked.
pub mod RowLaws
pub mod Clearing
pub mod Sharing
