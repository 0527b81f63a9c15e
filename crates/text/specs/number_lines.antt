-- Contents: the room that the line of the repeats needs.
pub mod Room
