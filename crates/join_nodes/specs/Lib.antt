-- Contents: what each left set adds to the counts from a node on, what is known of the candidates at a node, and of the node; then, a
-- page a module, a block of checks, left sets with no child to visit, a lone left set, and a node that is entered.
pub mod Rows
pub mod Narrowing
pub mod Visiting
pub mod block_checks
pub mod blocks
pub mod lone
pub mod enter
