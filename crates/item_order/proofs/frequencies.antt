-- The loop of the tally; then the frequencies from the entries of both sides, and their bound.
pub mod Tallying
pub mod Frequencies
