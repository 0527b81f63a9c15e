-- Contents: what the functions over the totals of a load ask and promise.
pub mod Totals
