-- Laws of the loader's first pass; numbers and totals are on the pages used_numbers and totals. Each function that needs a proof file
-- has its folder beside them.
pub mod Taking
pub mod Scanning
