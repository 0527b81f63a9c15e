-- Laws from a file's bytes to the pairs of its records: the order of tags, the records of an accepted file, containment of
-- items and of tags, what a load filled, and the pair list of a run over it.
pub mod ByteOrder
pub mod Covered
pub mod RecordBytes
pub mod ItemTags
pub mod LoadedLists
pub mod LoadedPairs
