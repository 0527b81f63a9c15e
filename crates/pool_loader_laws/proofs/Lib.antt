-- Laws of the pooled load, from the pooled records up to the pairs and the round trip.
pub mod RecordLists
pub mod ByNumber
pub mod BorrowerTags
pub mod PooledFaults
pub mod PooledSets
pub mod AcceptedPair
pub mod PooledPairs
pub mod PooledRoundTrip
