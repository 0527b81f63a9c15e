-- Contents: document 01, "Order of tags"; then the keys by which the order is sorted.
pub mod Order
pub mod Keys
