-- Contents: the room that the lines of pairs need.
pub mod Room
