-- Contents: the falls of a list, and a collection tested as one list. What is valid is defined in `sets`.
pub mod falls
pub mod collections
