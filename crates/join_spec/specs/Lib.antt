-- Contents: document 01, "The run" (here the join) in the order of its text, then the answer and the lists at exit.
pub mod PairList
pub mod Query
pub mod Node
pub mod Walk
pub mod Counting
pub mod Kinds
pub mod Answer
