-- Contents: what the pass over the second file asks and promises; then the slots of the first file's right sets, the tags of one set
-- from both files, and what is counted.
pub mod Second
pub mod right_slots
pub mod union
pub mod counting
