-- Laws of the pair list after an answer.
pub mod OutputLaws
