-- Contents: what the function of this module asks and promises.
pub mod Deciding
