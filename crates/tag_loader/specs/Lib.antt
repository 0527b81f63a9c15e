-- Contents: what the loader's second pass and its modules ask and promise. What the loader itself promises is defined in `tag_file`.
pub mod Passes
pub mod record_items
pub mod fill
pub mod lent_lists
