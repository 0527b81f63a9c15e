-- Laws of the tests, and the merge that decides containment.
pub mod TestLaws
pub mod Containing
