-- Laws of checks and of the counters, by topic; the ends of ranges are on the page keys, gathering on the page gather, the answer
-- on the page tally_answer. Each function that needs a proof file has its folder beside them.
pub mod Tallying
pub mod Probing
pub mod RowChecks
