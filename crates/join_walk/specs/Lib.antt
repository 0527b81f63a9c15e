-- Contents: the partitions, with what the whole walk answers; then the heaviest child, the left sets of a child, and one partition.
pub mod Partitions
pub mod heaviest
pub mod visit
pub mod partition
