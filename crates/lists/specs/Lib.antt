-- The shared definitions on lists. Their laws are in proofs/.
pub mod Lists
pub mod Parts
pub mod Writing
pub mod Lent
