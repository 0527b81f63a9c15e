-- Contents: the second pass of a pooled load over the right sets; then a record that pools, and a right set written by itself.
pub mod Pool
pub mod pooled
pub mod own_sets
