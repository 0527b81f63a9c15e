-- Laws of the index: what its regions keep while only the slots change, grouping by key, and what is read off it. How it is built is
-- on the pages stages and build.
pub mod GroundLaws
pub mod GroupLaws
pub mod Ordering
pub mod Reading
pub mod Orders
pub mod Places
