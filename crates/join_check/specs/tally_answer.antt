-- Contents: what the function of this module asks and answers.
pub mod Answering
