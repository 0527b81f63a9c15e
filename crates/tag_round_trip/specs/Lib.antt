-- Contents: the records of a file that was written, and what the round trip says.
pub mod Rewritten
pub mod Trips
