-- Contents: one partition, and what its visit answers.
pub mod Partition
