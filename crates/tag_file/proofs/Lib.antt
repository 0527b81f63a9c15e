-- Laws of the tag file's definitions; each function that needs a proof file has its folder beside them.
pub mod ReadLaws
pub mod Tables
pub mod RecordLaws
pub mod FoundRecords
pub mod Ended
pub mod FaultLaws
pub mod FaultFree
pub mod AnswerLaws
pub mod Bytes
pub mod ItemCount
pub mod RepeatLaws
pub mod Sides
