-- Contents: the room that the line of the counts needs.
pub mod Room
