-- Contents: lists written into the work list, and the room for the keys and values of sets.
pub mod Writing
pub mod KeyRooms
