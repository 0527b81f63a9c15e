-- Laws of a partition, without code: as a node of depth 1, and its visit.
pub mod PartitionSteps
