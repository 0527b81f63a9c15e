-- Contents: what the functions of this module ask and answer.
pub mod Shortlists
