-- Contents: the text of an answer; then what its function asks for.
pub mod AnswerText
pub mod Inner
