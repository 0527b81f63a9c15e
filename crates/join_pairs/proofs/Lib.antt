-- Laws on the pairs of the left sets from a place on, and on what a kept row comes to; the search for one left set is on the pages
-- shortlists, left_search and row_pairs. Each function that needs a proof file has its folder beside them.
pub mod PairRows
pub mod Copying
