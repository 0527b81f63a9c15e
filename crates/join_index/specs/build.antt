-- Contents: what the build is given.
pub mod Building
