-- Laws of the answer.
-- case by case
pub mod Cases
