-- Contents: what the checks of a row that is kept ask and answer.
pub mod Recording
