-- Laws of the answer by the counters.
pub mod AnswerLaws
