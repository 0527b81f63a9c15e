-- Contents: the order of the left sets, what the regions of the work list hold during the walk, and what their readers ask; then where
-- the regions lie, and what the stages and the build need and leave.
pub mod Grouping
pub mod Ground
pub mod Asking
pub mod Ranges
pub mod regions
pub mod stages
pub mod build
