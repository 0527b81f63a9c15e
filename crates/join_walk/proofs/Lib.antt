-- Laws of the walk, without code: from partition to partition, and to the sums of the whole query. A visit, the heaviest child and one
-- partition are on the pages visit, heaviest and partition.
pub mod PartitionRanges
pub mod Totals
pub mod WalkSteps
