-- Contents: laws of a row that is kept while its left set is checked.
pub mod RecordLaws
