-- Contents: what the functions of this module ask and promise.
pub mod Own
