-- Contents: where the regions lie.
pub mod Regions
