-- Contents: the two halves of the line.
pub mod CountHalves
