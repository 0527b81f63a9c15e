-- Laws of the search, and named examples. First the examples, then the search over any elements, its tests and its answer, and
-- what an accepted call shows.
pub mod Examples
pub mod FirstLaws
pub mod FirstTests
pub mod Calls
