-- Contents: the text of an answer by its two cases, and the room for its lines of pairs.
pub mod AnswerTexts
