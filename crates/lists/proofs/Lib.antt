-- Laws on lists and numbers, each in the file of its operation; a file cites only those above it.
-- Bool tests
pub mod Bools
-- `memb`, and the place of a member
pub mod Membership
-- `all`, `any`, `subset`
pub mod Throughout
-- `distinct`
pub mod Distinct
-- `map`
pub mod Mapping
-- `count`, numbers below a bound, tallies
pub mod Counting
-- `keep`
pub mod Filtering
-- `sum`
pub mod Summing
-- `range`, `upto`, tables, lists by their places
pub mod Ranges
-- `rising`
pub mod Rising
-- `slice`, and `Changed`: parts of a list and what a function leaves as it was
pub mod Slices
-- two rising lists merged
pub mod Merging
-- the order by key and place, and its ranks
pub mod CountingSort
-- stores, and the invariant of a region being written
pub mod Filling
-- numbers written run after run
pub mod Writing
-- the invariant of a list being filled with zeros
pub mod Zeros
