-- Contents: what goes into an operation over both collections, and the tests of it.
pub mod Input
pub mod Tests
pub mod Inner
