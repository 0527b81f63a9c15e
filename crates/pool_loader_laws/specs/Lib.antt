-- Contents: what the end laws of a pooled load are said in.
pub mod Borrowers
