-- Contents: the counters of a walk, checks of left sets, one check, the longest range, and the answer by the counters.
pub mod Counters
pub mod Checks
pub mod Probes
pub mod keys
pub mod tally_answer
