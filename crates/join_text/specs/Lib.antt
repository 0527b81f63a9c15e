-- Contents: the text of a join; then what its functions ask for.
pub mod JoinText
pub mod Inner
