-- Laws of a visit, without code: from a node to its children and to the heaviest of them.
pub mod ChildSteps
pub mod ChildNodes
pub mod HeavyChild
pub mod Descents
