-- Laws that lead to the round trip, from bytes up.
pub mod Values
pub mod Printing
pub mod Written
pub mod Decoding
pub mod Sorted
pub mod Items
pub mod Rewriting
pub mod Refilled
pub mod Faults
pub mod FileRecords
pub mod Accepted
pub mod RoundTrip
pub mod Example
