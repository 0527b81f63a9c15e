-- Contents: what the loops that turn the sets by rank about need and leave.
pub mod Turning
