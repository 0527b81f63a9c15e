-- Contents: the rule as a number; then, inner, an input that passed the tests before the walk, and the pair list by the answer.
pub mod Numbered
pub mod Ready
pub mod output
