-- Laws of falls and borders; each function that needs a proof file has its folder beside them.
-- a list without falls, and one that is cut at a border
pub mod Falls
-- the passes, place by place
pub mod Passes
-- parts by their ends
pub mod Ends
