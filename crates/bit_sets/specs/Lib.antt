-- Contents: what a set kept as the digits of words has, and what the functions on it ask and promise.
pub mod BitSets
