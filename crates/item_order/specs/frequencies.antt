-- Contents: what the functions that count promise each other.
pub mod Counts
