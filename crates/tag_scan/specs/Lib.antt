-- Contents: what the loader's first pass asks and promises; then where a used number is noted, and the totals of a load.
pub mod Scan
pub mod used_numbers
pub mod totals
