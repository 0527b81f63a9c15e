-- Contents: what the function of this module asks.
pub mod Output
