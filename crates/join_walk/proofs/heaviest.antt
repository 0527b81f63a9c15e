-- Laws of the ranges of a node, split where one begins.
pub mod RangeParts
