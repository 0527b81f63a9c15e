-- Contents: slots of the right sets of a file.
pub mod Slots
