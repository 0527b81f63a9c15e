-- Laws of the test; each function has its folder beside them.
-- numbers met for the first time
pub mod Fresh
