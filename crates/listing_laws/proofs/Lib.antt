-- Contents: how much of a file counts, the causes that can arise in the program, its text without the others, and document 01's example.
pub mod Reading
pub mod Faults
pub mod Sizes
pub mod Cases
pub mod Example
