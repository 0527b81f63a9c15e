-- Contents: what the functions that add the tags of a record ask and promise.
pub mod Adding
