-- Laws of the answer after the walk, of the choice between bit rows and the walk, of a call as a whole, and of a rule that is a number.
-- The tests and the pair list are on the pages validate and output.
pub mod AnswerLaws
pub mod RowsChoice
pub mod CallLaws
pub mod ByNumber
