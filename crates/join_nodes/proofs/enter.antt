-- Laws of a node where the walk goes on, without code: what is left of it after each step of its entry.
pub mod NodeSteps
pub mod EmptyNodes
pub mod NodeChildren
pub mod NodeEntries
