-- Contents: words and rising parts of a list of words; then, a page a module, flags, words found by halving, what two parts share,
-- copies.
pub mod Words
pub mod Merges
pub mod flags
pub mod found
pub mod shared
pub mod copies
