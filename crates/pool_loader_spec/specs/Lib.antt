-- Contents: document 02, C-11, "Two pads, one borrower".
pub mod Pooling
