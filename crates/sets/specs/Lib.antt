-- Contents: document 01, "Sets and settings" and the table of "When no list is made", in their order.
pub mod Limits
pub mod Collections
pub mod Ordered
pub mod Signatures
pub mod Refusals
pub mod Lent
