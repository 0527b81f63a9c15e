-- Laws of the test, beside the folders of its functions.
-- the one-pass test of a rising set
pub mod Rises
