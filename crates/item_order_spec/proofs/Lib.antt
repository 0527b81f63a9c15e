-- Laws of the order: its test, answer and call; keys in place of frequencies; and what the ranks of an accepted order are.
pub mod Answers
pub mod Keys
pub mod Ranks
