-- What an accepted order has. The laws of counting and ranking are on the pages frequencies and ranks.
pub mod Filling
