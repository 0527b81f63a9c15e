-- Contents: the text that the program kitlist prints for a file; then what its functions ask and promise each other.
pub mod Listing
pub mod Inner
