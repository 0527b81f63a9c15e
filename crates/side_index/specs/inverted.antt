-- Contents: what the loops that place the sets of a collection by rank need and leave.
pub mod Placing
