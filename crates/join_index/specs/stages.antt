-- Contents: what the stages need and leave.
pub mod Stages
