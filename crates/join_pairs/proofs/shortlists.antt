-- Laws on the candidates of a left set; each function that needs a proof file has its folder beside them.
pub mod Inverted
pub mod Meeting
pub mod Sifting
